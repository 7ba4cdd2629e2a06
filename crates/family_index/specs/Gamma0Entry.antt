-- An entry of the table of the index of Γ0(n): the rule of the handbook, and what the number is the number of.
--
--   Gamma0Entry n i     i is the entry for n:
--     rule         n times the product, over the primes q that divide n, of (1 + 1/q), as whole numbers: i times the
--                  product of these q is n times the product of the q + 1
--     index        i matrices meet each right coset of Γ0(n) precisely once
--     points-S, points-R     the tables of S and R of Γ0(n) have i points
use Rattle.std.specs.Prelude.{◌≡◌, ℕ, suc, ◌*◌, length}
use Rattle.congruence.specs.Congruence.{Meets}
use Rattle.right_cosets.specs.Transversal.{Everything, Index}
use Rattle.congruence.specs.Index.{over_primes}
use Rattle.congruence.specs.Cosets.{family_s, family_r}
use Rattle.congruence.specs.declared.Family.TheVariants as family

pub record Gamma0Entry (n i : ℕ) : Type 0 where
  pub rule : i * over_primes (λ (q : ℕ). q) n (suc n) ≡ n * over_primes suc n (suc n)
  pub index : Index Everything (Meets family.Gamma0 n) i
  pub points_S : length (family_s family.Gamma0 n) ≡ i
  pub points_R : length (family_r family.Gamma0 n) ≡ i
