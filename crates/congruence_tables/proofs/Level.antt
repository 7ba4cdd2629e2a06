-- A group Γ(n) of index at most 3,066 has n below 64: `gamma_low`.
-- Why: the index of Γ0(n) is at least n, so that of Γ(n) is at least n n.
-- Assumes nothing.
use mathlib.Core.Path.{◌≡◌, sym, ◌∙◌, ap}
use mathlib.Core.Logic.{inl, inr}
use Prim.Native.Nat.{ℕ, zero, suc, ◌+◌, ◌*◌, ◌≤◌, ◌<◌}
use native.Mathlib.Omega.{arith}
use native.Mathlib.Nat.{mul-le-mul}
use native.Mathlib.Decide.{dec_lt}
use lib.ListN.{length}
use Rattle.basics.proofs.Choice.{either}
use Rattle.congruence.specs.Congruence.{meets}
use Rattle.congruence.specs.Index.{is_factor, over_primes, index0, index1, half_units, family_index}
use Rattle.congruence.specs.declared.Family.TheVariants as family
use Rattle.congruence.proofs.Factor.{over_some}
use Rattle.congruence.proofs.Index0.{index0_exact}
use Rattle.congruence.proofs.Meets.{decided}
use Rattle.congruence.proofs.Theorem.{families, indexes}
use Rattle.right_cosets.specs.Cosets.{cosets_to}
use Rattle.right_cosets.proofs.Listed.{to_listed, listed_few}

over_le : (n b : ℕ) → over_primes (λ (q : ℕ). q) n b ≤ over_primes suc n b
unfolding over_primes
over_le n zero = omega arith
over_le n (suc b) = let k = over_le n b in elim (either (is_factor n b)) [
  | inl e ↦ rw (over_primes, e) (mul-le-mul k (let i : b ≤ suc b = omega arith in i))
  | inr e ↦ rw (over_primes, e) (omega arith)
]

no_less : (i d n m : ℕ) → i * d ≡ n * m → d ≤ m → 0 < d → n ≤ i
no_less i d n m e h some = elim (dec_lt i n) [
  | yes k ↦ let z : suc i * d ≤ n * m = mul-le-mul k h in let no : ⊥ = omega arith in absurd no
  | no k ↦ omega arith
]

pub index0_low : (n : ℕ) → 0 < n → n ≤ index0 n
index0_low n some =
    no_less (index0 n) (over_primes (λ (q : ℕ). q) n (suc n)) n (over_primes suc n (suc n)) (index0_exact n some) (over_le n (suc n))
    (over_some (λ (q : ℕ). q) n (suc n) (λ q least. omega (arith, least.big)))

index1_some : (n : ℕ) → 0 < n → 0 < index1 n
index1_some n some =
    let c = families family.Gamma1 n in
    let g = to_listed c (decided family.Gamma1 n) 0 in
    omega (arith, g.some, listed_few c (decided family.Gamma1 n) (indexes family.Gamma1 n some) g)

product_low : (n h i : ℕ) → n ≤ i → 0 < h * i → n ≤ h * i
product_low n zero i k some = let no : ⊥ = omega arith in absurd no
product_low n (suc h) i k some =
    let z : 1 ≤ suc h = omega arith in
    let y : 1 * n ≤ suc h * i = mul-le-mul z k in
    omega arith

square_low : (n i : ℕ) → n ≤ i → n * i ≤ 3066 → n < 64
square_low n i h k = elim (dec_lt n 64) [
  | yes l ↦ l
  | no l ↦
      let z : 64 ≤ n = omega arith in
      let y : 64 ≤ i = omega arith in
      let x : 64 * 64 ≤ n * i = mul-le-mul z y in
      let no : ⊥ = omega arith in
      absurd no
]

pub gamma_low : (n : ℕ) → 0 < n → family_index family.Gamma n ≤ 3066 → n < 64
gamma_low n some few = square_low n (index1 n) (product_low n (half_units n) (index0 n) (index0_low n some) (index1_some n some)) few
