-- `numbering::number` meets its contract. The loop's invariant: the points listed are those of the numbering after i visits.
-- The measure is what is left of the points.
-- Assumes nothing.
use Prim.Native.Nat.{◌-◌}
use Rattle.numbering.proofs.Listing.{Part}
use Rattle.numbering.proofs.number.Given as goal

abbrev pub invariant-loop-i : goal.invariant-loop-i
invariant-loop-i l = Part l.start l.size l.initial.w l.w l.n l.i

abbrev pub decreases-loop-i : goal.decreases-loop-i
decreases-loop-i l = l.size - l.i
