-- `number_line` meets its contract: the first number, the others behind spaces, the line feed. Assumes nothing.
use native.Mathlib.Omega.{arith}
use Prim.Native.Nat.{◌-◌, ◌<◌}
use native.Mathlib.Decide.{dec_lt}
use lib.IntN.{pos}
use lib.ListN.{length, get_or, take, drop, length-drop}
use lib.Seq.{length-take-le}
use mir.Syntax.{w64}
use mir.Facts.{to_z-of_z}
use Rattle.decimal.proofs.Placing.{puts_as, puts_then}
use Rattle.text.proofs.Spacing.{themselves}
use Rattle.symbol_texts.proofs.ImportLines.{empty_line, full_line}
use Rattle.symbol_texts.proofs.import_text.number_line.Goals as goal

pub returns-then-xs-eq0 : goal.returns-then-xs-eq0
returns-then-xs-eq0 c =
    let s = c in
    let e = c.put.ensures in
    (puts_as (empty_line s.args.xs.now c.if-xs-eq0.true) e, omega (arith, e.end_is))

pub returns : goal.returns
returns c =
    let earlier = c in
    let s = earlier in
    let xs = s.args.xs.now in
    let some = earlier.if-xs-eq0.false in
    let p = rw (to_z-of_z {w = w64} {z = get_or xs 0 (pos 0)} (record { sfits = omega arith })) at c.put-first.ensures in
    let q = rw (themselves (take (length xs - 1) (drop 1 xs))) at c.put_each-second.ensures in
    let e = c.put-2.ensures in
    let n = length-take-le (length xs - 1) (drop 1 xs) (omega (arith, length-drop 1 xs)) in
    let more : 0 < length xs = elim (dec_lt 0 (length xs)) [ yes h ↦ h | no h ↦ absurd (some (omega arith)) ] in (
      puts_as (full_line xs some) (puts_then (puts_then p.puts q.0 (omega (arith, s.requires))) e (omega (arith, s.requires))),
      omega (arith, p.within, q.1, e.end_is, n, more),
    )
