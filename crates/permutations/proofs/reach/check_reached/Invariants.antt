-- `check_reached` finds the first point that isn't reached, since the marks tell which are (`mark_told`). The loop's invariant: each
-- point below x is reached. Assumes nothing.
use Rattle.basics.proofs.Count.{Clear}
use Rattle.permutations.specs.Check.{not_reached}
use Rattle.permutations.proofs.reach.check_reached.Given as goal

abbrev pub invariant-loop-x : goal.invariant-loop-x
invariant-loop-x l = Clear (not_reached l.s l.r) l.x
