-- The group that a family's number and N name, and the refusals 20 and 21.
--
--   family_of k         the family with the number k: 0 is Γ0, 1 is Γ1, 2 is Γ
--   group_check k n     20 where k is none of these or n isn't from 1 to 1,000; then 21 where the index is over 3,066
--   NamedGroup k n      what a group with a name is; so `group_check` accepts exactly these (proofs/Checked.antt,
--                       `group_verdict`)
--   GroupVerdict k n c  c is the answer of the two checks, and it is that the group is accepted exactly when it is one
--                       with a name; and the index that they compare is the number of right cosets
use Rattle.std.specs.Prelude.{◌≡◌, ◌↔◌, not, ◌&&◌, ℕ, ◌≤◌, leb, eqb, Ok}
use Rattle.basics.specs.Choice.{pick}
use Rattle.call.specs.Refusal.{◌or_else◌, Checked}
use Rattle.call.specs.declared.refusal.Refusal.TheVariants.{BadLevel, LargeIndex}
use Rattle.symbol.specs.Check.{refuse}
use Rattle.congruence.specs.Congruence.{Meets}
use Rattle.right_cosets.specs.Transversal.{Everything, Index}
use Rattle.congruence.specs.Index.{family_index}
use Rattle.congruence.specs.declared.Family.{Family}
use Rattle.congruence.specs.declared.Family.TheVariants as family

abbrev pub family_of : ℕ → Family
family_of k = pick (eqb k 0) family.Gamma0 (pick (eqb k 1) family.Gamma1 family.Gamma)

abbrev pub group_check : (k n : ℕ) → Checked
group_check k n = refuse (not (leb k 2 && leb 1 n && leb n 1000)) BadLevel or_else refuse
    (not (leb (family_index (family_of k) n) 3066)) LargeIndex

pub record NamedGroup (k n : ℕ) : Type 0 where
  pub named : k ≤ 2
  pub some : 1 ≤ n
  pub most : n ≤ 1000
  pub few : family_index (family_of k) n ≤ 3066

pub record GroupVerdict (k n : ℕ) (c : Checked) : Type 0 where
  pub returned : c ≡ group_check k n
  pub means : (c ≡ Ok tt) ↔ NamedGroup k n
  pub index : 1 ≤ n → Index Everything (Meets (family_of k) n) (family_index (family_of k) n)
