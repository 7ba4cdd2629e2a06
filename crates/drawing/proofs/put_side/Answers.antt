-- `put_side`: four stores from 4 i on make the row (`row_stored`). Assumes nothing.
use Rattle.drawing.proofs.Rows.{row_stored}
use Rattle.drawing.proofs.put_side.Goals as goal

pub returns : goal.returns
returns c = rw c.row_of.ensures (row_stored c.args.side c.args.kind c.args.out.now c.args.i c.requires.1)
