-- `go_on` follows what is left run by run: after each run there is something later left (`later`), and in the end the last run leads to the place (`arrived`).
-- Assumes nothing.
use Rattle.same_coset.specs.Inner.Rows.{RemainsLater}
use Rattle.same_coset.proofs.t_runs.go_on.Given as goal

abbrev pub invariant-loop-x : goal.invariant-loop-x
invariant-loop-x l = RemainsLater l.n l.w l.initial.x l.x

abbrev pub decreases-loop-x : goal.decreases-loop-x
decreases-loop-x l = l.x.c
