-- `congruence::modular::common_divisor` meets its contract. The loop's invariant: r0 and r1 are -s0 c and s1 c modulo n, r1 below r0, and have the divisors
-- of n and c. The measure is r1: a turn takes it below the remainder of r0, which is below it.
-- Assumes nothing.
use Prim.Native.Nat.{◌<◌}
use Rattle.congruence.proofs.Euclid.{Euclid}
use Rattle.congruence.proofs.modular.common_divisor.Given as goal

abbrev pub invariant-loop-r1 : goal.invariant-loop-r1
invariant-loop-r1 l = Euclid l.n l.c l.r0 l.s0 l.r1 l.s1 × (l.r1 < l.r0)

abbrev pub decreases-loop-r1 : goal.decreases-loop-r1
decreases-loop-r1 l = l.r1
