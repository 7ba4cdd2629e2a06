-- `congruence_tables::point` meets its contract: the part and the multiplier of the column c make the entry.
-- Assumes nothing.
use borrow.Author.Rules.{rules}
use native.Mathlib.Omega.{arith}
use Rattle.congruence_tables.proofs.Column.{point_some, point_product, point_at_lem}
use Rattle.congruence_tables.proofs.point.Goals as goal

pub overflow_mul-result : goal.overflow_mul-result
overflow_mul-result c = omega (arith, point_product c.requires c.wide-s.ensures)

pub nonzero_rem-result : goal.nonzero_rem-result
nonzero_rem-result c = let s = point_some c.requires c.wide-h.ensures in omega (arith, s)

pub returns : goal.returns
returns c = point_at_lem c.requires c.wide-h.ensures c.wide-s.ensures
