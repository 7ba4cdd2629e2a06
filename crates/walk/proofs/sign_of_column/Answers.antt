-- `sign_of_column` asks for the upper entry, and where that is 0 for the lower one and whether the rows agree (`column_is`). Assumes nothing.
use Rattle.matrix.specs.Matrix.{nth, of_list}
use Rattle.matrix.proofs.Bounds.{kept}
use Rattle.walk.proofs.Told.{column_is}
use Rattle.walk.proofs.sign_of_column.Goals as goal

pub returns : goal.returns
returns c =
    let m = c.args.m in
    column_is (of_list m) _ _ c.rows_agree.result c.times-below.result c.sign_of_entry.result
    (kept (nth m 0) c.sign_of_entry-arg-1.given) (kept (nth m 2) c.times-arg-1.given)
    c.rows_agree.ensures c.times-below.ensures c.sign_of_entry.ensures
