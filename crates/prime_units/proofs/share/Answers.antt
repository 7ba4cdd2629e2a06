use Rattle.prime_units.proofs.Numbers.{Stepping, Stepped, stepping_start, stepping_next, stepping_end, stepping_low}
use Rattle.congruence_decision.proofs.Primes.{prime_least}
use native.Mathlib.Omega.{arith}
use Prim.Native.Nat.{◌-◌, ◌+◌, ◌≤◌, ◌<◌}
use borrow.Author.Rules.{rules}
use Rattle.prime_units.proofs.share.Goals as goal

pub own_part-r-requires : goal.own_part-r-requires
own_part-r-requires c = ((prime_least c.args.p c.requires.0).big, c.requires.1, c.requires.2, c.requires.3)

pub loop-e-init : goal.loop-e-init
loop-e-init c = stepping_start c.args.p c.args.d c.own_part-r.result c.requires.0 c.own_part-r.ensures

pub overflow_add-e : goal.overflow_add-e
overflow_add-e c =
    let s = c in
    let t = stepping_next s.requires.2 s.own_part-r.ensures.whole c.loop-e.invariant (λ e. c.loop-e-test.true e) in
    omega (arith, t.low, s.requires.3)

pub loop-e-smaller : goal.loop-e-smaller
loop-e-smaller c =
    let s = c in
    let t = stepping_next s.requires.2 s.own_part-r.ensures.whole c.loop-e.invariant (λ e. c.loop-e-test.true e) in
    omega (arith, t.low, t.some)

pub loop-e-preserved : goal.loop-e-preserved
loop-e-preserved c =
    let s = c in
    let t = stepping_next s.requires.2 s.own_part-r.ensures.whole c.loop-e.invariant (λ e. c.loop-e-test.true e) in
    t.next

pub returns : goal.returns
returns c =
    let s = c in (
      stepping_end s.own_part-r.ensures c.loop-e.invariant c.loop-e-test.false,
      omega
          (arith, stepping_low s.own_part-r.ensures.whole c.loop-e.invariant, s.requires.3),
    )
