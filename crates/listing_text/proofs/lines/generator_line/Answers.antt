-- `lines::generator_line` meets its contract: the number, the word of the kind, the entries. Assumes nothing.
use native.Mathlib.Omega.{arith}
use lib.IntN.{pos}
use Prim.Native.Nat.{◌-◌}
use lib.ListN.{length, get_or, drop, length-drop}
use lib.Seq.{length-take-le}
use mir.Syntax.{w64}
use mir.Facts.{to_z-of_z}
use Rattle.listing_text.proofs.Listed.{row_put}
use Rattle.listing_text.proofs.lines.generator_line.Goals as goal

pub returns : goal.returns
returns c =
    let row = c.args.row.now in
    let e = c.line_of.ensures in
    let p = c.put-first.ensures in
    let word = rw (to_z-of_z {w = w64} {z = get_or row 0 (pos 0)} (record { sfits = omega arith })) at c.kind_word.ensures.word in
    let others = length-take-le (length row - 1) (drop 1 row) (omega (arith, length-drop 1 row)) in (
      row_put c.args.j row word p.puts e.0 (omega arith),
      omega (arith, p.within, e.1, c.kind_word.ensures.short, others, length-drop 1 row),
    )
