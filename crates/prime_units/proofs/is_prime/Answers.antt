use Rattle.prime_units.proofs.Numbers.{Seeking, seeking_start, seeking_next, seeking_end, small_prime}
use native.Mathlib.Omega.{arith}
use mathlib.Core.Path.{sym}
use Prim.Native.Nat.{◌-◌, ◌+◌}
use borrow.Author.Rules.{rules}
use Rattle.prime_units.proofs.is_prime.Goals as goal

pub returns-then-p-lt2 : goal.returns-then-p-lt2
returns-then-p-lt2 c = sym (small_prime c.args.p (omega arith))

pub loop-d-init : goal.loop-d-init
loop-d-init c = seeking_start c.args.p (omega arith)

pub overflow_add-d : goal.overflow_add-d
overflow_add-d c = omega (arith, (seeking_next c.loop-d.invariant (λ e. c.loop-d-test.true e)).low)

pub loop-d-smaller : goal.loop-d-smaller
loop-d-smaller c = omega (arith, (seeking_next c.loop-d.invariant (λ e. c.loop-d-test.true e)).low)

pub loop-d-preserved : goal.loop-d-preserved
loop-d-preserved c = seeking_next c.loop-d.invariant (λ e. c.loop-d-test.true e)

pub returns : goal.returns
returns c = sym (seeking_end c.loop-d.invariant c.loop-d-test.false)
