use Prim.Native.Nat.{◌-◌, ◌≤◌}
use native.Mathlib.Omega.{arith}
use Rattle.congruence_decision.specs.Equations.{ProductEquations}
use Rattle.congruence_equations.specs.Inner.Places.{turn_at, go_at}
use Rattle.congruence_equations.proofs.Landing.{refuted, product_none, product_more, product_end}
use borrow.Author.Rules.{rules}
use Rattle.congruence_equations.proofs.product_passes.Goals as goal

pub loop-y-init : goal.loop-y-init
loop-y-init c = (
  omega arith,
  product_none c.args.n c.args.w.now c.args.q c.args.g c.args.h
      c.args.g2 c.args.h2,
)

pub returns-then-not-product_at : goal.returns-then-not-product_at
returns-then-not-product_at c =
    refuted c.product_at.ensures c.if-not-product_at.true
    (λ e. e c.loop-y.y (omega arith))

pub loop-y-preserved : goal.loop-y-preserved
loop-y-preserved c = (
  omega arith,
  product_more c.args.n c.args.w.now
      c.args.q c.args.g
      c.args.h c.args.g2
      c.args.h2 c.loop-y.y c.loop-y.invariant.1
      (c.product_at.ensures.yes c.if-not-product_at.false),
)

pub returns : goal.returns
returns c = product_end c.args.n c.args.w.now c.args.q
    c.args.g c.args.h c.args.g2 c.args.h2
    c.loop-y.y c.loop-y.invariant.1 (omega arith)
