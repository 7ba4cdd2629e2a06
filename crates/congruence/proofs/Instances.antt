-- Small cases, computed from the definitions: indexes, and the tables of Γ0(2) and Γ(2) that docs/CONVENTIONS.md has.
-- Assumes nothing.
use mathlib.Core.Path.{◌≡◌, refl}
use mathlib.Core.List.{[], ◌∷◌, map}
use Rattle.matrix.specs.Matrix.{◌⊗◌, 𝟙, neg, adj, mat_s, mat_t, mat_r}
use Rattle.congruence.specs.declared.Family.TheVariants as family
use Rattle.congruence.specs.Congruence.{meets}
use Rattle.congruence.specs.Index.{divisor_from, over_primes, family_index}
use Rattle.right_cosets.specs.Cosets.{with_coset, cosets_to, coset_table}
use Rattle.congruence.specs.Cosets.{family_s, family_r}

indexes_0 : map (family_index family.Gamma0) (1 ∷ 2 ∷ 3 ∷ 4 ∷ 5 ∷ 6 ∷ 7 ∷ 8 ∷ 9 ∷ 10 ∷ 11 ∷ 12 ∷ 36 ∷ 1000 ∷ [])
    ≡ 1 ∷ 3 ∷ 4 ∷ 6 ∷ 6 ∷ 12 ∷ 8 ∷ 12 ∷ 12 ∷ 18 ∷ 12 ∷ 24 ∷ 72 ∷ 1800 ∷ []
unfolding divisor_from over_primes
indexes_0 = refl

-- Γ1(N) is Γ0(N) for N up to 4 and 6
indexes_1 : map (family_index family.Gamma1) (1 ∷ 2 ∷ 3 ∷ 4 ∷ 5 ∷ 6 ∷ 7 ∷ 8 ∷ 11 ∷ []) ≡ 1 ∷ 3 ∷ 4 ∷ 6 ∷ 12 ∷ 12 ∷ 24 ∷ 24 ∷ 60 ∷ []
unfolding divisor_from over_primes
indexes_1 = refl

indexes : map (family_index family.Gamma) (1 ∷ 2 ∷ 3 ∷ 4 ∷ 5 ∷ 6 ∷ 7 ∷ []) ≡ 1 ∷ 6 ∷ 12 ∷ 24 ∷ 60 ∷ 72 ∷ 168 ∷ []
unfolding divisor_from over_primes
indexes = refl

gamma0_2_S : family_s family.Gamma0 2 ≡ 1 ∷ 0 ∷ 2 ∷ []
unfolding family_s coset_table cosets_to with_coset meets divisor_from over_primes ◌⊗◌ adj 𝟙 mat_s mat_t mat_r
gamma0_2_S = refl

gamma0_2_R : family_r family.Gamma0 2 ≡ 2 ∷ 0 ∷ 1 ∷ []
unfolding family_r coset_table cosets_to with_coset meets divisor_from over_primes ◌⊗◌ adj 𝟙 mat_s mat_t mat_r
gamma0_2_R = refl

gamma_2_S : family_s family.Gamma 2 ≡ 1 ∷ 0 ∷ 4 ∷ 5 ∷ 2 ∷ 3 ∷ []
unfolding family_s coset_table cosets_to with_coset meets divisor_from over_primes ◌⊗◌ neg adj 𝟙 mat_s mat_t mat_r
gamma_2_S = refl

gamma_2_R : family_r family.Gamma 2 ≡ 2 ∷ 3 ∷ 5 ∷ 4 ∷ 1 ∷ 0 ∷ []
unfolding family_r coset_table cosets_to with_coset meets divisor_from over_primes ◌⊗◌ neg adj 𝟙 mat_s mat_t mat_r
gamma_2_R = refl
