use Prim.Native.Nat.{◌-◌, ◌≤◌}
use native.Mathlib.Omega.{arith}
use Rattle.congruence_decision.specs.Equations.{UnitEquations}
use Rattle.congruence_equations.specs.Inner.Places.{turn_at, go_at}
use Rattle.congruence_equations.proofs.Landing.{refuted, unit_none, unit_more, unit_end, unit_at_place}
use borrow.Author.Rules.{rules}
use Rattle.congruence_equations.proofs.unit_passes.Goals as goal

pub loop-y-init : goal.loop-y-init
loop-y-init c = (omega arith, unit_none c.args.n c.args.w.now c.args.q c.args.g c.args.h)

pub returns-then-not-unit_at : goal.returns-then-not-unit_at
returns-then-not-unit_at c =
    refuted c.unit_at.ensures c.if-not-unit_at.true
    (unit_at_place c.args.n c.args.w.now
    c.args.q c.args.g
    c.args.h c.loop-y.y (omega arith))

pub loop-y-preserved : goal.loop-y-preserved
loop-y-preserved c = (
  omega arith,
  unit_more c.args.n c.args.w.now
      c.args.q c.args.g
      c.args.h c.loop-y.invariant.1
      (c.unit_at.ensures.yes c.if-not-unit_at.false),
)

pub returns : goal.returns
returns c = unit_end c.args.n c.args.w.now c.args.q
    c.args.g c.args.h c.loop-y.invariant.1 (omega arith)
