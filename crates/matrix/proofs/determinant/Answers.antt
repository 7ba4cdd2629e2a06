-- `determinant` is a d - b c, with the entries read row by row; the contract leaves room for both products and their difference.
-- Assumes nothing.
use mathlib.Core.Path.{◌∙◌}
use Rattle.matrix.specs.Matrix.{nth, det}
use Rattle.matrix.proofs.Bounds.{kept}
use Rattle.matrix.proofs.determinant.Goals as goal

pub returns : goal.returns
unfolding det
returns c =
    let four = c in
    let m = four.args.m in
    kept c.difference_of_products.result c.difference_of_products.type_inv
    ∙ c.difference_of_products.ensures
    ∙ cc (
      kept (nth m 0) four.difference_of_products-arg-1.given,
      kept (nth m 3) four.difference_of_products-arg-2-1.given,
      kept (nth m 1) four.difference_of_products-arg-3-1.given,
      kept (nth m 2) four.difference_of_products-arg-4-1.given,
    )
