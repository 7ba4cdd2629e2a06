-- The numbered right cosets of the three families, and their tables of S and R.
--
--   family_cosets f n         the right cosets of the family f for n: as many visits as the index says are enough
--   family_s, family_r        its tables of S and R
use Rattle.std.specs.Prelude.{List, ℕ}
use Rattle.matrix.specs.Matrix.{Mat, mat_s, mat_r}
use Rattle.congruence.specs.Congruence.{meets}
use Rattle.congruence.specs.Index.{family_index}
use Rattle.congruence.specs.declared.Family.{Family}
use Rattle.right_cosets.specs.Cosets.{coset_table, cosets_to}

abbrev pub family_cosets : Family → ℕ → List Mat
family_cosets f n = cosets_to (meets f n) (family_index f n)

unfoldable pub family_s : Family → ℕ → List ℕ
family_s f n = coset_table (meets f n) (family_cosets f n) mat_s

unfoldable pub family_r : Family → ℕ → List ℕ
family_r f n = coset_table (meets f n) (family_cosets f n) mat_r
