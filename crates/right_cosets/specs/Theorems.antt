-- THE THEOREMS of right cosets, with the condition left open, each stated here as a type; proofs/Theorem.antt has a
-- proof of each, under the name in brackets.
--
--   OneIndex        [one-index]   there is one index only
--   NumberedCosets  [numbered]    with the condition left open: where its index is n, the list after n visits and the
--                   two tables of it are those of
--                                 the right cosets; so a matrix fixes point 0 precisely when it meets the condition
--   OneTable        [one-table]   with the condition left open: no other tables say what these say
use Rattle.std.specs.Prelude.{◌≡◌, Bool, List, ℕ}
use Rattle.matrix.specs.Matrix.{Mat, mat_s, mat_r}
use Rattle.right_cosets.specs.Condition.{Condition, Decides}
use Rattle.right_cosets.specs.Transversal.{Everything, Index}
use Rattle.right_cosets.specs.Cosets.{cosets_to, coset_table, CosetsOf}

abbrev pub OneIndex : Type 1
OneIndex = (D C : Mat → Type 0) → Condition C → (n n' : ℕ) → Index D C n → Index D C n' → n ≡ n'

abbrev pub NumberedCosets : Type 1
NumberedCosets = (C : Mat → Type 0) → Condition C → (test : Mat → Bool) → Decides C test → (n : ℕ)
    → Index Everything C n
    → CosetsOf C n (coset_table test (cosets_to test n) mat_s) (coset_table test (cosets_to test n) mat_r)

abbrev pub OneTable : Type 1
OneTable = (C : Mat → Type 0) → Condition C → (n n' : ℕ) (s r s' r' : List ℕ) → CosetsOf C n s r → CosetsOf C n' s' r'
    → (n ≡ n') × ((s ≡ s') × (r ≡ r'))
