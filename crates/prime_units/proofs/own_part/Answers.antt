use Rattle.prime_units.proofs.Numbers.{Dividing, dividing_start, dividing_next, dividing_end, grows, product_low}
use native.Mathlib.Omega.{arith}
use Prim.Native.Nat.{◌-◌, ◌+◌}
use borrow.Author.Rules.{rules}
use Rattle.prime_units.proofs.own_part.Goals as goal

pub loop-r-init : goal.loop-r-init
loop-r-init c = dividing_start c.args.p c.args.d c.requires.2

pub overflow_mul-r : goal.overflow_mul-r
overflow_mul-r c =
    omega (arith, product_low c.loop-r.r c.args.p 4096 4096 (omega (arith, c.loop-r.invariant.low, c.requires.3)) c.requires.1)

pub nonzero_rem-d : goal.nonzero_rem-d
nonzero_rem-d c = omega (arith, grows c.loop-r.r c.args.p c.loop-r.invariant.some c.requires.0)

pub overflow_mul-r-in-loop-r : goal.overflow_mul-r-in-loop-r
overflow_mul-r-in-loop-r c =
    omega (
      arith,
      product_low c.loop-r.r c.args.p 4096 4096
          (omega (arith, c.loop-r.invariant.low, c.requires.3)) c.requires.1,
    )

pub loop-r-smaller : goal.loop-r-smaller
loop-r-smaller c =
    let s = c in
    omega (
      arith,
      grows c.loop-r.r s.args.p c.loop-r.invariant.some s.requires.0,
      (dividing_next s.requires.0 s.requires.2
          c.loop-r.invariant c.loop-r-test.true).low,
    )

pub loop-r-preserved : goal.loop-r-preserved
loop-r-preserved c = let s = c in dividing_next s.requires.0 s.requires.2 c.loop-r.invariant c.loop-r-test.true

pub returns : goal.returns
returns c = dividing_end c.loop-r.invariant (λ e. c.loop-r-test.false e)
