-- Where a matrix leads in tables of S and R.
--
--   by_table_q s r x    where Q leads from the point x: Q is S R R S up to sign
--   leads s r m         where the matrix m leads from point 0: its alternating word, followed in the tables
--   IsReached s r j     some matrix of determinant 1 leads from point 0 to j
use Rattle.std.specs.Prelude.{◌≡◌, List, ℕ, pos}
use Rattle.matrix.specs.Matrix.{Mat, det}
use Rattle.matrix.specs.Action as action
use Rattle.numbering.specs.Table.{image_at}

abbrev pub by_table_q : (s r : List ℕ) → ℕ → ℕ
by_table_q s r x = image_at s (image_at r (image_at r (image_at s x)))

abbrev pub leads : (s r : List ℕ) → Mat → ℕ
leads s r m = action.at (image_at s) (by_table_q s r) 0 m

pub record IsReached (s r : List ℕ) (j : ℕ) : Type 0 where
  pub matrix : Mat
  pub unit : det matrix ≡ pos 1
  pub is : leads s r matrix ≡ j
