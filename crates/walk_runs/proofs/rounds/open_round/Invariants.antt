-- `open_round` enters one position after the other, until S Q leads to one that has a place: the first one (`opened`). Fewer positions are without a place
-- each time. Assumes nothing.
use Prim.Native.Nat.{◌-◌}
use Rattle.polygon.specs.Cut.{places}
use Rattle.walk_runs.specs.Inner.Rounds.{RoundsListed, Closed, Opening}
use Rattle.walk_runs.proofs.rounds.open_round.Given as goal

abbrev pub invariant-loop-r : goal.invariant-loop-r
invariant-loop-r l = RoundsListed l.v l.t l.r l.n × Closed l.v l.t l.r l.a × Opening l.v l.t l.r l.p l.a l.n l.x

abbrev pub decreases-loop-r : goal.decreases-loop-r
decreases-loop-r l = places l.v - l.n
