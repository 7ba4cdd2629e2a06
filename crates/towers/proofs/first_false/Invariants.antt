-- The loop's invariant: no claim below i is false. Assumes nothing.
use Rattle.basics.proofs.Count.{Clear}
use Rattle.towers.specs.Tower.{claim_fails}
use Rattle.towers.proofs.first_false.Given as goal

abbrev pub invariant-loop-i : goal.invariant-loop-i
invariant-loop-i l = Clear (claim_fails l.n l.t) l.i
