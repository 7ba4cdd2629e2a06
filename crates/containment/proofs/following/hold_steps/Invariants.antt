-- `hold_steps` writes the S image of each place. The loop's invariant: the places below p have theirs. Assumes nothing.
use borrow.Author.Rules.{rules}
use Prim.Native.Nat.{◌-◌, ◌≤◌}
use native.Mathlib.Omega.{arith}
use Rattle.coset.proofs.Work.{image_low}
use Rattle.containment.proofs.Corners.{StepsTo, steps_none, steps_more, steps_all}
use Rattle.containment.proofs.following.hold_steps.Given as goal

abbrev pub invariant-loop-p : goal.invariant-loop-p
invariant-loop-p l = StepsTo l.v l.t l.s l.p × (l.p ≤ l.end)
