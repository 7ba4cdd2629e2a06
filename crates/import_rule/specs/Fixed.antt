-- The matrices that fix point 0, S and R being two permutations of points.
--
--   by_q σ ρ x          where Q leads from x, S being σ and R being ρ: Q is S R⁻¹ S up to sign, and R⁻¹ is R twice
--   fixes σ κ m         whether the matrix m fixes point 0, S being σ and Q being κ
use Rattle.std.specs.Prelude.{Bool, ℕ, eqb}
use Rattle.matrix.specs.Matrix.{Mat}
use Rattle.matrix.specs.Action.{at}

abbrev pub by_q : (σ ρ : ℕ → ℕ) → ℕ → ℕ
by_q σ ρ x = σ (ρ (ρ (σ x)))

abbrev pub fixes : (σ κ : ℕ → ℕ) → Mat → Bool
fixes σ κ m = eqb (at σ κ 0 m) 0
