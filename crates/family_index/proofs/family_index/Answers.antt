-- `family_index::family_index` meets its contract: of each family the index is the product that defines it, and no product is too large.
-- Assumes nothing.
use native.Mathlib.Omega.{arith}
use Rattle.family_index.proofs.Family.{fits1, fits, of_gamma0, of_gamma1, of_gamma}
use Rattle.family_index.proofs.family_index.Goals as goal

pub overflow_mul-result : goal.overflow_mul-result
overflow_mul-result c =
    let e = c in
    omega (arith, fits1 e.requires c.half_units.ensures.upper_bound e.table_entry-zero.ensures.upper_bound)

pub overflow_mul-result-in-Gamma : goal.overflow_mul-result-in-Gamma
overflow_mul-result-in-Gamma c =
    let e = c in
    omega (arith, fits1 e.requires c.half_units-in-Gamma.ensures.upper_bound e.table_entry-zero.ensures.upper_bound)

pub overflow_mul-result-in-Gamma-2 : goal.overflow_mul-result-in-Gamma-2
overflow_mul-result-in-Gamma-2 c =
    let e = c in
    omega (arith, fits e.requires c.half_units-in-Gamma.ensures.upper_bound e.table_entry-zero.ensures.upper_bound)

pub returns-in-Gamma0 : goal.returns-in-Gamma0
returns-in-Gamma0 c = of_gamma0 c.args.n c.in-Gamma0.is c.table_entry-zero.ensures.value

pub returns-in-Gamma1 : goal.returns-in-Gamma1
returns-in-Gamma1 c =
    let e = c in
    of_gamma1 e.args.n c.in-Gamma1.is c.half_units.ensures.value e.table_entry-zero.ensures.value

pub returns-in-Gamma : goal.returns-in-Gamma
returns-in-Gamma c =
    let e = c in
    of_gamma e.args.n c.in-Gamma.is c.half_units-in-Gamma.ensures.value e.table_entry-zero.ensures.value
