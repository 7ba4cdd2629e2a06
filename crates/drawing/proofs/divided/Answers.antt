-- `divided` is the definition's division, of what went through 64 bits. Assumes nothing.
use mir.Facts.{to_z-of_z}
use Rattle.drawing.specs.Quotient.{quotient}
use Rattle.drawing.proofs.divided.Goals as goal

pub returns : goal.returns
unfolding quotient
returns c =
    let s = c in
    rw (to_z-of_z s.ranges.x, to_z-of_z s.ranges.y)
