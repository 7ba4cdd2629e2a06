-- `product_passes`: the places below y have passed. Assumes nothing.
use Prim.Native.Nat.{◌-◌, ◌≤◌}
use native.Mathlib.Omega.{arith}
use Rattle.congruence_decision.specs.Equations.{ProductEquations}
use Rattle.congruence_equations.specs.Inner.Places.{turn_at, go_at}
use Rattle.congruence_equations.proofs.Landing.{refuted, product_none, product_more, product_end}
use borrow.Author.Rules.{rules}
use Rattle.congruence_equations.proofs.product_passes.Given as goal

abbrev pub invariant-loop-y : goal.invariant-loop-y
invariant-loop-y l = (l.y ≤ l.n) × ProductEquations l.y (turn_at l.w) (go_at l.n l.w) l.q l.g l.h l.g2 l.h2
