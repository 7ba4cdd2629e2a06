-- THE THEOREMS of this crate, each stated here as a type; proofs/Theorem.antt has a proof of each, under the name in
-- brackets.
--
--   Families        [families]    each family is a condition, for every n
--   Tests           [tests]       the test `meets f n` decides it
--   Indexes         [indexes]     `family_index` is the index of each family, for every n from 1 on
--   Totient         [totient]     from 3 on, the index of Γ1(n) is that of Γ0(n) times φ(n) / 2
--   FamilyTables    [tables]      so for the three families, for every n from 1 on
use Rattle.std.specs.Prelude.{◌≡◌, ℕ, ◌*◌, ◌/◌, ◌<◌}
use Rattle.right_cosets.specs.Condition.{Condition, Decides}
use Rattle.congruence.specs.declared.Family.{Family}
use Rattle.congruence.specs.declared.Family.TheVariants as family
use Rattle.congruence.specs.Congruence.{Meets, meets}
use Rattle.right_cosets.specs.Transversal.{Everything, Index}
use Rattle.congruence.specs.Index.{phi, family_index}
use Rattle.congruence.specs.Cosets.{family_s, family_r}
use Rattle.right_cosets.specs.Cosets.{CosetsOf}

abbrev pub Families : Type 0
Families = (f : Family) (n : ℕ) → Condition (Meets f n)

abbrev pub Tests : Type 0
Tests = (f : Family) (n : ℕ) → Decides (Meets f n) (meets f n)

abbrev pub Indexes : Type 0
Indexes = (f : Family) (n : ℕ) → 0 < n → Index Everything (Meets f n) (family_index f n)

abbrev pub Totient : Type 0
Totient = (n : ℕ) → 2 < n → family_index family.Gamma1 n ≡ phi n / 2 * family_index family.Gamma0 n

abbrev pub FamilyTables : Type 0
FamilyTables = (f : Family) (n : ℕ) → 0 < n → CosetsOf (Meets f n) (family_index f n) (family_s f n) (family_r f n)
