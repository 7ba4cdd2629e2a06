use mathlib.Core.Path.{◌≡◌, ap}
use Prim.Native.Nat.{ℕ, ◌*◌}
use native.Mathlib.Omega.{arith}
use Rattle.congruence.proofs.Primes.{p_fits, factoring_start, factoring_next}
use Rattle.congruence.proofs.Primes.{more_low, more_fits, rest_less, more_new, more_old}
use Rattle.congruence.proofs.modular.index_of_gamma0.Goals.{then-met-p-eq0, else-met-p-eq0}
use Rattle.congruence.proofs.modular.index_of_gamma0.Goals as goal

pub loop-rest-init : goal.loop-rest-init
loop-rest-init c = factoring_start c.requires

pub overflow_add-p : goal.overflow_add-p
overflow_add-p c = omega (arith, p_fits c.loop-rest.invariant (omega arith))

pub loop-rest-smaller-then-rest-p-ne0 : goal.loop-rest-smaller-then-rest-p-ne0
loop-rest-smaller-then-rest-p-ne0 c = omega (arith, p_fits c.loop-rest.invariant (omega arith))

pub loop-rest-preserved-then-rest-p-ne0 : goal.loop-rest-preserved-then-rest-p-ne0
loop-rest-preserved-then-rest-p-ne0 c = factoring_next c.loop-rest.invariant (λ e. omega arith)

pub overflow_mul-index : goal.overflow_mul-index
overflow_mul-index c =
    let fits = more_fits c.loop-rest.invariant (omega arith) in
    elim c.if-met-p-eq0.branch [
      | then-met-p-eq0 w ↦ rw w.index-is (omega (arith, fits))
      | else-met-p-eq0 w ↦ rw w.index-is (omega (arith, fits))
    ]

pub loop-rest-smaller : goal.loop-rest-smaller
loop-rest-smaller c =
    let h = c.loop-rest.invariant in
    omega (arith, rest_less h (omega arith) (omega arith), p_fits h (omega arith))

pub loop-rest-preserved : goal.loop-rest-preserved
loop-rest-preserved c =
    let h = c.loop-rest.invariant in
    let times = λ (k : ℕ) (e : c.if-met-p-eq0.index ≡ k). ap (λ (z : ℕ). c.loop-rest.index * z) e in
    elim c.if-met-p-eq0.branch [
      | then-met-p-eq0 w ↦ more_old h (omega arith) w.if-met-p-eq0.true (times _ w.index-is)
      | else-met-p-eq0 w ↦ more_new h (omega arith) (λ e. w.if-met-p-eq0.false e) (times _ w.index-is)
    ]

pub overflow_mul-met : goal.overflow_mul-met
overflow_mul-met c = omega (arith, more_low c.loop-rest.invariant (omega arith), c.loop-rest.invariant.modulus.most)
