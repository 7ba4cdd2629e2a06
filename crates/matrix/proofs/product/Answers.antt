-- `product` is the matrix product: its four entries are each row of m times each column of n, for all of which the contract gives room.
-- Assumes nothing.
use Rattle.matrix.specs.Matrix.{◌⊗◌}
use Rattle.matrix.proofs.Bounds.{kept}
use Rattle.matrix.proofs.product.Goals as goal

pub returns : goal.returns
unfolding ◌⊗◌
returns c =
    let three = c in
    let two = three in
    let one = two in
    rw (
      kept one.entry.result one.entry.type_inv,
      kept two.entry-2.result two.entry-2.type_inv,
      kept three.entry-3.result three.entry-3.type_inv,
      kept c.entry-4.result c.entry-4.type_inv,
      one.entry.ensures,
      two.entry-2.ensures,
      three.entry-3.ensures,
      c.entry-4.ensures,
    )
