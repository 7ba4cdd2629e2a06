use native.Mathlib.Omega.{arith}
use Rattle.congruence.proofs.Units.{counted_few, counted_all}
use Rattle.congruence.proofs.modular.half_units.Goals as goal

pub overflow_add-count : goal.overflow_add-count
overflow_add-count c = omega (arith, counted_few c.loop-u.invariant)

pub returns-clause-upper_bound : goal.returns-clause-upper_bound
returns-clause-upper_bound c = (counted_all c.loop-u.invariant (omega arith)).1
