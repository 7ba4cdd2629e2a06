-- `step_by` makes one block after the other (`stepping_none`, `stepping_more`, `stepping_end`). Assumes nothing.
use Rattle.basics.specs.Choice.{pick}
use Rattle.matrix.specs.Words.{P, Q}
use Rattle.walk_runs.specs.Inner.Tally.{Stepping}
use Rattle.walk_runs.proofs.step_by.Given as goal

abbrev pub invariant-loop-block : goal.invariant-loop-block
invariant-loop-block l = Stepping l.v l.t (pick l.inverse P Q) l.p l.k l._block l.at l.count
