-- `sum_of_products` is x y + z w over the integers: both products and their sum fit (`left_fits`, `right_fits`, `sum_fits`).
-- Assumes nothing.
use mir.Facts.{to_z-of_z}
use Rattle.matrix.proofs.Bounds.{left_fits, right_fits, sum_fits}
use Rattle.matrix.proofs.sum_of_products.Goals as goal

pub overflow_mul-result : goal.overflow_mul-result
overflow_mul-result c = rw (to_z-of_z c.ranges.x, to_z-of_z c.ranges.y) (left_fits c.requires)

pub overflow_mul-result-2 : goal.overflow_mul-result-2
overflow_mul-result-2 c = rw (to_z-of_z c.ranges.z, to_z-of_z c.ranges.w) (right_fits c.requires)

pub overflow_add-result : goal.overflow_add-result
overflow_add-result c = rw (
  to_z-of_z c.ranges.x,
  to_z-of_z c.ranges.y,
  to_z-of_z c.ranges.z,
  to_z-of_z c.ranges.w,
  to_z-of_z (left_fits c.requires),
  to_z-of_z
      (right_fits c.requires),
) (sum_fits c.requires)

pub returns : goal.returns
returns c = rw (
  to_z-of_z c.ranges.x,
  to_z-of_z c.ranges.y,
  to_z-of_z c.ranges.z,
  to_z-of_z c.ranges.w,
  to_z-of_z (left_fits c.requires),
  to_z-of_z
      (right_fits c.requires),
  to_z-of_z (sum_fits c.requires),
)
