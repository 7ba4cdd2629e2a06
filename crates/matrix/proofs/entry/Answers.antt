-- `entry` is a row of m times a column of n. Why each index is below 4: a row starts at 0, 1 or 2 and has one more entry, a column starts
-- at 0 or 1 and goes on two further. Assumes nothing.
use mathlib.Core.Path.{◌∙◌}
use Prim.Native.Nat.{◌+◌}
use Rattle.matrix.specs.Matrix.{nth}
use Rattle.matrix.proofs.Bounds.{kept}
use Rattle.matrix.proofs.entry.Goals as goal

pub returns : goal.returns
returns c =
    let four = c in
    let s = four in
    kept c.sum_of_products.result c.sum_of_products.type_inv
    ∙ c.sum_of_products.ensures
    ∙ cc (
      kept (nth s.args.m s.args.i) four.sum_of_products-arg-1.given,
      kept (nth s.args.n s.args.j) four.sum_of_products-arg-2-1.given,
      kept (nth s.args.m (s.args.i + 1)) four.sum_of_products-arg-3-1.given,
      kept (nth s.args.n (s.args.j + 2)) four.sum_of_products-arg-4-1.given,
    )
