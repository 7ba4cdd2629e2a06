-- `start_by` marks three points and writes three sides, the leftmost last, so that it is on top (`three_cells`). Assumes nothing.
use Rattle.import_sides.proofs.Turn.{three_cells}
use borrow.Author.Rules.{rules}
use Rattle.import_sides.proofs.walk.start_by.Goals as goal

pub returns : goal.returns
returns c =
    let earlier = c in
    three_cells
    earlier.args.w.now _ _ _ _ _ _ _ _ _
    earlier.hold.ensures
    c.put_cell.ensures
    c.put_cell-2.ensures
    c.put_cell-3.ensures
