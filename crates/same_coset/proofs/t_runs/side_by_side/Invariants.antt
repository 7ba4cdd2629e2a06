-- `side_by_side` keeps for both that something later is left (`later`). Assumes nothing.
use Rattle.same_coset.specs.Inner.Rows.{RemainsLater}
use Rattle.same_coset.proofs.t_runs.side_by_side.Given as goal

abbrev pub invariant-loop-x : goal.invariant-loop-x
invariant-loop-x l = RemainsLater l.n l.w l.initial.x l.x × RemainsLater l.n l.w l.initial.y l.y

abbrev pub decreases-loop-x : goal.decreases-loop-x
decreases-loop-x l = l.x.c
