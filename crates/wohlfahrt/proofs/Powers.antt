-- Powers of T = (1 1; 0 1) and of L = (1 0; 1 1).
--
--   upper s, lower s      T and L to the power s, for an integer s
--   upperᵉ, lowerᵉ        the same as expressions of matrices
--
-- Assumes nothing.
use mathlib.Core.Path.{◌≡◌, refl}
use mathlib.Core.List.{[], ◌∷◌}
use lib.IntN.{ℤ, pos, neg_ℤ, ◌+ℤ◌}
use Rattle.matrix.specs.Matrix.{Mat, mat, ◌⊗◌, 𝟙, adj, det, mat_s}
use Rattle.matrix.proofs.Ring.{Exp, con, var, ◌⊕◌, ◌⊙◌, ⊖◌, ring, MExp, lit, const, ◌⊛◌, adjᵉ, ring_m}
use Rattle.right_cosets.specs.Condition.{Unit}

unfoldable pub upper : ℤ → Mat
upper s = mat (pos 1) s (pos 0) (pos 1)

unfoldable pub lower : ℤ → Mat
lower s = mat (pos 1) (pos 0) s (pos 1)

abbrev pub upperᵉ : Exp → MExp
upperᵉ e = lit (con (pos 1)) e (con (pos 0)) (con (pos 1))

abbrev pub lowerᵉ : Exp → MExp
lowerᵉ e = lit (con (pos 1)) (con (pos 0)) e (con (pos 1))

pub unit_upper : (s : ℤ) → Unit (upper s)
unfolding det upper
unit_upper s = ring (s ∷ []) (con (pos 1) ⊙ con (pos 1) ⊕ ⊖ (var 0 ⊙ con (pos 0))) (con (pos 1)) tt

pub unit_lower : (s : ℤ) → Unit (lower s)
unfolding det lower
unit_lower s = ring (s ∷ []) (con (pos 1) ⊙ con (pos 1) ⊕ ⊖ (con (pos 0) ⊙ var 0)) (con (pos 1)) tt

pub upper-+ : (a b : ℤ) → upper (a +ℤ b) ≡ upper a ⊗ upper b
unfolding upper
upper-+ a b = ring_m (a ∷ b ∷ []) (upperᵉ (var 0 ⊕ var 1)) (upperᵉ (var 0) ⊛ upperᵉ (var 1)) tt

pub lower-+ : (a b : ℤ) → lower (a +ℤ b) ≡ lower a ⊗ lower b
unfolding lower
lower-+ a b = ring_m (a ∷ b ∷ []) (lowerᵉ (var 0 ⊕ var 1)) (lowerᵉ (var 0) ⊛ lowerᵉ (var 1)) tt

-- L^a is S T^-a S⁻¹
pub lower_as : (a : ℤ) → lower a ≡ mat_s ⊗ upper (neg_ℤ a) ⊗ adj mat_s
unfolding upper lower mat_s
lower_as a = ring_m (a ∷ []) (lowerᵉ (var 0)) (const mat_s ⊛ upperᵉ (⊖ var 0) ⊛ adjᵉ (const mat_s)) tt

pub upper_zero : upper (pos 0) ≡ 𝟙
unfolding upper 𝟙
upper_zero = refl

pub lower_zero : lower (pos 0) ≡ 𝟙
unfolding lower 𝟙
lower_zero = refl
