-- `Side::free` is N S M⁻¹, the partner's frame N on the left and the side's own M on the right; both are small. Assumes nothing.
use Rattle.symbol.proofs.Sides.{small_S}
use Rattle.symbol.proofs.Side.free.Goals as goal

pub carry-requires : goal.carry-requires
carry-requires c =
    let b = c in
    let a = b in
    let s = a in
    rw (a.frame.ensures, b.matrix_s.ensures, c.frame-2.ensures) (s.requires.1, small_S, s.requires.0)

pub returns : goal.returns
returns c =
    let d = c in
    let b = d in
    let a = b in
    rw (c.carry.ensures, a.frame.ensures, b.matrix_s.ensures, d.frame-2.ensures)
