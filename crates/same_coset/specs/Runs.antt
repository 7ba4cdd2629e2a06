-- RUNS OF T. Up to sign a matrix of determinant 1 is T^q S T^q' S .. T^e: division to the nearest multiple on its first
-- column finds the exponents, up to sign the partial quotients, and the last one is what remains in the end. A run T^q
-- is followed in one look, by the remainder of q by the width of the cusp. Points are known here by their places in the
-- order of their cusps (`cusp_order` of the crate cusp_record), where T goes on to the next place.
--
--   power_t q             T^q = (1 q; 0 1), for an integer q
--   runs_value l          the product of T^q S for the exponents q of l, of which the last stands first
--   Guided turns u lead   THE TABLES FOLLOW `lead`, which says for each matrix of determinant 1 to which point it
--                         leads: one more T is a step in the table u of T, and one more S a look in the table `turns`,
--                         which has for each place the place of the S image; the identity leads to 0
--   Arrived turns u m y   y is the place to which the matrix m leads, whatever `lead` these tables follow
use Rattle.std.specs.Prelude.{◌≡◌, List, [], ◌∷◌, ℕ, ◌<◌, length, ℤ, pos}
use Rattle.matrix.specs.Matrix.{Mat, mat, ◌⊗◌, 𝟙, det, mat_s, mat_t, ◌≈◌}
use Rattle.numbering.specs.Table.{image_at, Permutes}
use Rattle.cusp_record.specs.Record.{cusp_place}

unfoldable pub power_t : ℤ → Mat
power_t q = mat (pos 1) q (pos 0) (pos 1)

abbrev pub runs_value : List ℤ → Mat
runs_value [] = 𝟙
runs_value (q ∷ l) = runs_value l ⊗ (power_t q ⊗ mat_s)

pub record Guided (turns u : List ℕ) (lead : Mat → ℕ) : Type 0 where
  pub permutes : Permutes u
  pub point_low : (m : Mat) → det m ≡ pos 1 → lead m < length u
  pub zero : lead 𝟙 ≡ 0
  pub by_S : (m : Mat) → det m ≡ pos 1 → cusp_place u (lead (m ⊗ mat_s)) ≡ image_at turns (cusp_place u (lead m))
  pub by_T : (m : Mat) → det m ≡ pos 1 → lead (m ⊗ mat_t) ≡ image_at u (lead m)
  pub up_to_sign : (m n : Mat) → m ≈ n → lead m ≡ lead n

abbrev pub Arrived : (turns u : List ℕ) → Mat → ℕ → Type 0
Arrived turns u m y = (lead : Mat → ℕ) → Guided turns u lead → y ≡ cusp_place u (lead m)
