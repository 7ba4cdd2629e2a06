-- `descend`: the loop's invariant is that the triangles from k on have their images noted (`Laid`). Assumes nothing.
use borrow.Author.Rules.{rules}
use mathlib.Core.Path.{◌≡◌, refl, ◌∙◌, ap}
use Prim.Native.Nat.{◌*◌, ◌-◌, ◌≤◌}
use native.Mathlib.Omega.{arith}
use lib.ListN.{length}
use Rattle.polygon.proofs.Flip.{real_in}
use Rattle.containment.specs.Inner.Following.{ImagesLaid}
use Rattle.containment.proofs.Corners.{laid_none, next_noted, next_real, next_laid, length_laid}
use Rattle.containment.proofs.following.descend.Given as goal

abbrev pub invariant-loop-k : goal.invariant-loop-k
invariant-loop-k l = ImagesLaid l.v l.t l.n l.u l.w l.root l.k × (l.k ≤ l.n - 1) × (length l.w ≡ length l.initial.w)

abbrev pub decreases-loop-k : goal.decreases-loop-k
decreases-loop-k l = l.k
