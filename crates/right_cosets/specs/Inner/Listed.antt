-- Lists of matrices of right cosets, as a walk over the cosets makes them.
--
--   matrix_at l j       the matrix at the place j
--   Extends l l'     l' begins with l
--   CosetList C l       units, no two in one right coset of C, the identity first
use Rattle.std.specs.Prelude.{◌≡◌, List, ℕ, ◌≤◌, ◌<◌, length, get_or}
use Rattle.matrix.specs.Matrix.{Mat, ◌⊗◌, 𝟙, adj}
use Rattle.right_cosets.specs.Condition.{Unit}

abbrev pub matrix_at : List Mat → ℕ → Mat
matrix_at l j = get_or l j 𝟙

pub record Extends (l l' : List Mat) : Type 0 where
  pub long : length l ≤ length l'
  pub same : (j : ℕ) → j < length l → matrix_at l' j ≡ matrix_at l j

pub record CosetList (C : Mat → Type 0) (l : List Mat) : Type 0 where
  pub some : 0 < length l
  pub unit : (j : ℕ) → j < length l → Unit (matrix_at l j)
  pub first : matrix_at l 0 ≡ 𝟙
  pub apart : (j k : ℕ) → j < length l → k < length l → C (matrix_at l j ⊗ adj (matrix_at l k)) → j ≡ k
