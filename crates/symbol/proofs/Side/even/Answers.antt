-- `Side::even` is M S M⁻¹ with M the side's frame, within the bounds of `carry`: the frame is small, and so is S. Assumes nothing.
use Rattle.symbol.proofs.Sides.{small_S}
use Rattle.symbol.proofs.Side.even.Goals as goal

pub carry-requires : goal.carry-requires
carry-requires c =
    let b = c in
    let a = b in
    let s = a in
    rw (a.frame.ensures, b.matrix_s.ensures, c.frame-2.ensures) (s.requires, small_S, s.requires)

pub returns : goal.returns
returns c =
    let d = c in
    let b = d in
    let a = b in
    rw (c.carry.ensures, a.frame.ensures, b.matrix_s.ensures, d.frame-2.ensures)
