-- `box_of`: the box of a line is its place, that of an arc goes from end to end. Assumes nothing.
use Rattle.drawing.proofs.Whole.{is_0}
use Rattle.drawing.proofs.box_of.Goals as goal

pub returns-in-Line : goal.returns-in-Line
returns-in-Line c = rw (c.in-Line.is, is_0)

pub returns-in-Arc : goal.returns-in-Arc
returns-in-Arc c = rw (c.in-Arc.is, is_0)
