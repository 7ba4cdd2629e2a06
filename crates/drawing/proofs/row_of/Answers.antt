-- `row_of`: the floats 0 and 1 are those of the definition. Assumes nothing.
use Rattle.drawing.proofs.Whole.{is_0, is_1}
use Rattle.drawing.proofs.row_of.Goals as goal

pub returns-in-Line : goal.returns-in-Line
returns-in-Line c = rw (c.in-Line.is, is_0)

pub returns-in-Arc : goal.returns-in-Arc
returns-in-Arc c = rw (c.in-Arc.is, is_1)
