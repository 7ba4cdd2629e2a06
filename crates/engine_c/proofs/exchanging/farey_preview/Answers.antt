-- The call of the engine with the labels as they are read there: signed numbers that fit. Assumes nothing.
use mir.Facts.{to_z-of_z}
use Rattle.engine_c.proofs.exchanging.farey_preview.Goals as goal

pub returns : goal.returns
returns c = rw (to_z-of_z c.ranges.x, to_z-of_z c.ranges.y) at c.farey_preview.ensures
