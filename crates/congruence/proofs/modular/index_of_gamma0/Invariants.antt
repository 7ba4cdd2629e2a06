-- `congruence::modular::index_of_gamma0` meets its contract. The loop's invariant: n is met times rest, the index belongs to met, and no number from 2
-- to p - 1 divides rest. The measure 1001 rest - p gets less where p grows, for p is at most rest, and where rest is divided.
-- Assumes nothing.
use Prim.Native.Nat.{◌*◌, ◌-◌}
use Rattle.congruence.proofs.Primes.{Factoring}
use Rattle.congruence.proofs.modular.index_of_gamma0.Given as goal

abbrev pub invariant-loop-rest : goal.invariant-loop-rest
invariant-loop-rest l = Factoring l.n l.rest l.met l.index l.p

abbrev pub decreases-loop-rest : goal.decreases-loop-rest
decreases-loop-rest l = l.rest * 1001 - l.p
