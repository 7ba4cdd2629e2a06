-- `letter_q`: within a triangle Q writes nothing (`turn_silent`); at an odd side's outer face it writes the side's generator, and Q⁻¹ its
-- inverse (`turn_writes`). Assumes nothing.
use mathlib.Core.Path.{◌∙◌, ap}
use Prim.Native.Nat.{◌-◌, ◌*◌}
use native.Mathlib.Omega.{arith}
use mir.Facts.{to_z-of_z}
use mir.Syntax.{w16}
use Rattle.polygon.specs.Inner.Tables.{letters_of}
use Rattle.polygon.proofs.Flip.{real_in}
use Rattle.polygon.proofs.Stepping.{turn_silent, turn_writes, number_read}
use Rattle.polygon.proofs.walking.letter_q.Goals as goal

pub returns-then-p-b : goal.returns-then-p-b
returns-then-p-b c =
    let s = c in
    turn_silent s.args.t.now s.args.v s.args.w.now s.requires.0 s.args.inverse s.args.p c.if-p-b.true

pub number_of-j-requires : goal.number_of-j-requires
number_of-j-requires c = let s = c in
    let b = real_in s.args.v s.args.t.now s.requires.0.symbol s.args.p s.requires.1 in
    (omega (arith, s.requires.0.symbol.most), s.requires.0.long)

pub as_letter-requires : goal.as_letter-requires
as_letter-requires c = let s = c in
    let b = real_in s.args.v s.args.t.now s.requires.0.symbol s.args.p s.requires.1 in
    (number_read s.args.t.now s.args.v s.args.w.now s.requires.0 (s.args.p - 3 * (s.args.v - 1)) c.number_of-j.result
    (omega (arith, c.if-p-b.false)) c.number_of-j.ensures).2

pub returns : goal.returns
returns c = let n = c in
    let s = n in
    ap letters_of (to_z-of_z {w = w16} {z = c.as_letter.result} (record { sfits = c.as_letter.type_inv }) ∙ c.as_letter.ensures)
    ∙ turn_writes s.args.t.now s.args.v s.args.w.now s.requires.0 s.args.inverse s.args.p n.number_of-j.result s.requires.1
    n.if-p-b.false n.number_of-j.ensures
