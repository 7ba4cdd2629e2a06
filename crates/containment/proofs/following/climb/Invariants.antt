-- `climb`: the loop's invariant is that q goes to z, whatever tracks (`Climbed`). Assumes nothing.
use borrow.Author.Rules.{rules}
use Prim.Native.Nat.{◌-◌}
use native.Mathlib.Omega.{arith}
use Rattle.polygon.specs.Cut.{corners}
use Rattle.containment.specs.Inner.Following.{Climbed}
use Rattle.containment.proofs.Corners.{climb_start, climb_higher, climb_more, climb_end}
use Rattle.containment.proofs.following.climb.Given as goal

abbrev pub invariant-loop-x : goal.invariant-loop-x
invariant-loop-x l = Climbed l.v l.t l.n l.u l.p l.y l.q l.z l.x

abbrev pub decreases-loop-x : goal.decreases-loop-x
decreases-loop-x l = corners l.n - l.q
