-- Powers of T: their determinant is 1, their exponents add up, and the next one is one more T.
-- Assumes nothing.
use mathlib.Core.Path.{◌≡◌, refl, sym, ap, ◌∙◌}
use mathlib.Core.List.{[], ◌∷◌}
use Prim.Native.Nat.{ℕ, suc, ◌+◌}
use native.Mathlib.Omega.{arith}
use lib.IntN.{ℤ, pos, ◌+ℤ◌}
use Rattle.matrix.specs.Matrix.{◌⊗◌, 𝟙, det, mat_t}
use Rattle.matrix.proofs.Ring.{Exp, con, var, ◌⊕◌, ring, MExp, lit, ◌⊛◌, ring_m, detᵉ, det_val}
use Rattle.same_coset.specs.Runs.{power_t}

-- T^q for an expression q
abbrev pub shiftᵉ : Exp → MExp
shiftᵉ q = lit (con (pos 1)) q (con (pos 0)) (con (pos 1))

pub det_power_t : (q : ℤ) → det (power_t q) ≡ pos 1
unfolding power_t det
det_power_t q = let m = shiftᵉ (var 0) in det_val (q ∷ []) m ∙ ring (q ∷ []) (detᵉ m) (con (pos 1)) tt

pub power_t-+ : (q e : ℤ) → power_t q ⊗ power_t e ≡ power_t (q +ℤ e)
unfolding power_t
power_t-+ q e = ring_m (q ∷ e ∷ []) (shiftᵉ (var 0) ⊛ shiftᵉ (var 1)) (shiftᵉ (var 0 ⊕ var 1)) tt

pub power_t_0 : power_t (pos 0) ≡ 𝟙
unfolding power_t 𝟙
power_t_0 = refl

pub power_t_suc : (i : ℕ) → power_t (pos (suc i)) ≡ power_t (pos i) ⊗ mat_t
unfolding power_t mat_t
power_t_suc i = let more : suc i ≡ i + 1 = omega arith in ap (λ (j : ℕ). power_t (pos j)) more ∙ sym (power_t-+ (pos i) (pos 1))
