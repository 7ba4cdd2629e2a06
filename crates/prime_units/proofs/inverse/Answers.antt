use native.Mathlib.Omega.{arith}
use Rattle.prime_units.proofs.Numbers.{product_low, Inverting, inverting_start, inverting_more, inverting_end}
use Prim.Native.Nat.{◌-◌, ◌+◌, ◌≤◌, ◌<◌}
use borrow.Author.Rules.{rules}
use Rattle.prime_units.proofs.inverse.Goals as goal

pub loop-h-init : goal.loop-h-init
loop-h-init c = inverting_start c.args.q c.args.g

pub overflow_mul-g : goal.overflow_mul-g
overflow_mul-g c =
    let s = c in
    omega (arith, product_low s.args.g c.loop-h.h 4096 4096 (omega (arith, s.requires.1, s.requires.2)) (omega (arith, s.requires.1)))

pub returns-then-g-h-eq1 : goal.returns-then-g-h-eq1
returns-then-g-h-eq1 c = record {
  low = omega arith;
  is = λ l. c.if-g-h-eq1.true;
  none = λ e. let no : ⊥ = omega (arith, c.loop-h.invariant.some) in absurd no;
}

pub loop-h-preserved : goal.loop-h-preserved
loop-h-preserved c = inverting_more c.loop-h.invariant (omega arith) (λ e. c.if-g-h-eq1.false e)

pub returns : goal.returns
returns c = inverting_end c.loop-h.invariant (omega arith)
