-- `congruence::modular::half_units` meets its contract. The loop's invariant: the units up to sign below u have been counted.
-- Assumes nothing.
use Rattle.congruence.proofs.Units.{Counted}
use Rattle.congruence.proofs.modular.half_units.Given as goal

abbrev pub invariant-loop-u : goal.invariant-loop-u
invariant-loop-u l = Counted l.n l.count l.u
