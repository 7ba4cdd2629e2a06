-- `walk_far` makes one run after the other; each leaves less, and keeps the tables of rounds. Assumes nothing.
use Rattle.matrix.specs.Euclid.{total}
use Rattle.walk.specs.Inner.Way.{form_of}
use Rattle.walk_runs.specs.Inner.Tally.{Ahead}
use Rattle.walk_runs.specs.Inner.Rounds.{Rounds}
use Rattle.walk_runs.proofs.walk_far.Given as goal

abbrev pub invariant-loop-k : goal.invariant-loop-k
invariant-loop-k l = Ahead l.v l.t l.initial.now l.now × Rounds l.v l.t l.r

abbrev pub decreases-loop-k : goal.decreases-loop-k
decreases-loop-k l = total (form_of l.now)
