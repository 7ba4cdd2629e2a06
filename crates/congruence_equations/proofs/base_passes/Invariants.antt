-- `base_passes`: the places below y have passed. Assumes nothing.
use Prim.Native.Nat.{◌-◌, ◌≤◌}
use native.Mathlib.Omega.{arith}
use Rattle.congruence_decision.specs.Equations.{BaseEquations}
use Rattle.congruence_equations.specs.Inner.Places.{turn_at, go_at, back_at}
use Rattle.congruence_equations.proofs.Landing.{refuted, base_none, base_more, base_end, base_at_place}
use borrow.Author.Rules.{rules}
use Rattle.congruence_equations.proofs.base_passes.Given as goal

abbrev pub invariant-loop-y : goal.invariant-loop-y
invariant-loop-y l = (l.y ≤ l.n) × BaseEquations l.y (turn_at l.w) (go_at l.n l.w) (back_at l.n l.w)
