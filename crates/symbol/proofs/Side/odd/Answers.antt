-- `Side::odd` is M Q M⁻¹ with M the side's frame; Q has entries of size at most 1 (`small_Q`), as `carry` asks. Assumes nothing.
use Rattle.symbol.proofs.Sides.{small_Q}
use Rattle.symbol.proofs.Side.odd.Goals as goal

pub carry-requires : goal.carry-requires
carry-requires c =
    let b = c in
    let a = b in
    let s = a in
    rw (a.frame.ensures, b.matrix_q.ensures, c.frame-2.ensures) (s.requires, small_Q, s.requires)

pub returns : goal.returns
returns c =
    let d = c in
    let b = d in
    let a = b in
    rw (c.carry.ensures, a.frame.ensures, b.matrix_q.ensures, d.frame-2.ensures)
