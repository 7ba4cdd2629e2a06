use Prim.Native.Nat.{◌-◌, ◌≤◌}
use native.Mathlib.Omega.{arith}
use Rattle.congruence_decision.specs.Equations.{BaseEquations}
use Rattle.congruence_equations.specs.Inner.Places.{turn_at, go_at, back_at}
use Rattle.congruence_equations.proofs.Landing.{refuted, base_none, base_more, base_end, base_at_place}
use borrow.Author.Rules.{rules}
use Rattle.congruence_equations.proofs.base_passes.Goals as goal

pub loop-y-init : goal.loop-y-init
loop-y-init c = (omega arith, base_none c.args.n c.args.w.now)

pub returns-then-not-base_at : goal.returns-then-not-base_at
returns-then-not-base_at c =
    refuted c.base_at.ensures c.if-not-base_at.true
    (base_at_place c.args.n c.args.w.now
    c.loop-y.y (omega arith))

pub loop-y-preserved : goal.loop-y-preserved
loop-y-preserved c = (
  omega arith,
  base_more c.args.n c.args.w.now
      c.loop-y.invariant.1 (c.base_at.ensures.yes c.if-not-base_at.false),
)

pub returns : goal.returns
returns c = base_end c.args.n c.args.w.now c.loop-y.invariant.1 (omega arith)
