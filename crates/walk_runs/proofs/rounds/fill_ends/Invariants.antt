-- `fill_ends` enters the end of the round at each of its places (`filled_none`, `filled_more`). Assumes nothing.
use Rattle.walk_runs.specs.Inner.Rounds.{EndsFilled}
use Rattle.walk_runs.proofs.rounds.fill_ends.Given as goal

abbrev pub invariant-loop-y : goal.invariant-loop-y
invariant-loop-y l = EndsFilled l.a l.n l.y l.initial.r l.r
