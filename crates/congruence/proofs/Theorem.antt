-- Proofs of the theorems of specs/Theorems.antt.
-- Assumes nothing.
use Rattle.congruence.specs.declared.Family.TheVariants as family
use Rattle.congruence.specs.Cosets.{family_s, family_r}
use Rattle.congruence.specs.Theorems.{Families, Tests, Indexes, Totient, FamilyTables}
use Rattle.congruence.proofs.Signed.{gamma1_as, gamma_as}
use Rattle.congruence.proofs.Conditions.{gamma0, gamma1, gamma}
use Rattle.right_cosets.proofs.Transversal.{condition_as, index_as}
use Rattle.congruence.proofs.Index0.{index0_is}
use Rattle.congruence.proofs.Step1.{index1_is}
use Rattle.congruence.proofs.Phi.{index1_phi}
use Rattle.congruence.proofs.Step.{index_is_lem}
use Rattle.congruence.proofs.Meets.{decided}
use Rattle.right_cosets.proofs.Listed.{numbered_cosets}

pub families : Families
families family.Gamma0 n = gamma0 n
families family.Gamma1 n = condition_as gamma1_as (gamma1 n)
families family.Gamma n = condition_as gamma_as (gamma n)

pub tests : Tests
tests = decided

pub indexes : Indexes
indexes family.Gamma0 n h = index0_is n h
indexes family.Gamma1 n h = index_as gamma1_as (index1_is n h)
indexes family.Gamma n h = index_as gamma_as (index_is_lem n h)

pub totient : Totient
totient = index1_phi

pub tables : FamilyTables
unfolding family_s family_r
tables f n h = numbered_cosets (families f n) (decided f n) (indexes f n h)
