-- Inverses modulo a prime, and Euclid's lemma.
-- Why: modulo the prime p the inverse of d, 1 < d < p, comes from that of the remainder of p by d, which is smaller and not 0.
-- Assumes nothing.
use mathlib.Core.Path.{◌≡◌, sym, ◌∙◌, ap}
use mathlib.Core.Logic.{◌⊎◌, inl, inr}
use mathlib.Core.List.{[], ◌∷◌}
use Prim.Native.Nat.{ℕ, zero, suc, ◌/◌, ◌%◌, ◌≤◌, ◌<◌, ◌∣◌}
use native.Mathlib.Omega.{arith}
use native.Mathlib.Decide.{ℕ_discrete}
use native.Mathlib.Nat.{mod-lt, div-add-mod', dvd_of_mod-eq-zero}
use lib.IntN.{ℤ, pos, negsuc, neg_ℤ, ◌+ℤ◌, ◌-ℤ◌, ◌*ℤ◌}
use Rattle.matrix.proofs.Ring.{con, var, ◌⊕◌, ◌⊙◌, ⊖◌, ring}
use Rattle.congruence.specs.Congruence.{Multiple}
use Rattle.congruence.proofs.Multiple.{mult_as, mult_self, mult-+, mult-*, residue, residue_one}

-- d is the least divisor of n from 2 on; so Least p p says that p is a prime
pub record Least (n d : ℕ) : Type 0 where
  pub big : 1 < d
  pub divisor : d ∣ n
  pub least : (e : ℕ) → 1 < e → e < d → e ∣ n → ⊥

-- d has an inverse modulo p
pub record Inverse (p : ℕ) (d : ℤ) : Type 0 where
  pub by : ℤ
  pub is : Multiple p (d *ℤ by -ℤ pos 1)

pub not_one : (p : ℕ) → 1 < p → Multiple p (pos 1) → ⊥
not_one p h m = let e = residue_one p 1 0 h (omega arith) m in omega arith

module _ (p : ℕ) (prime : Least p p) where
  below : (f d : ℕ) → d ≤ f → 0 < d → d < p → Inverse p (pos d)
  below zero d h l b = let no : ⊥ = omega arith in absurd no
  below (suc f) d h l b = elim (ℕ_discrete d 1) [
    | yes e ↦ rw e (record { by = pos 1; is = record { times = pos 0; is = ring (pos p ∷ []) (con (pos 0)) (con (pos 0) ⊙ var 0) tt } })
    | no e ↦
        let r = p % d in
        let q = p / d in
        let r-low = mod-lt p l in
        let ne : r ≡ 0 → ⊥ = λ z. prime.least d (omega arith) b (dvd_of_mod-eq-zero d z) in
        let r_some : 0 < r = elim (ℕ_discrete r 0) [ yes z ↦ absurd (ne z) | no z ↦ omega arith ] in
        let i = below f r (omega arith) r_some (omega arith) in
        let s = i.by in
        record {
          by = neg_ℤ (pos q *ℤ s);
          is = mult_as
              (ap (λ (x : ℕ). pos r *ℤ s -ℤ pos 1 +ℤ neg_ℤ s *ℤ pos x) (sym (div-add-mod' p d))
              ∙ ring (pos d ∷ pos q ∷ pos r ∷ s ∷ []) (var 2 ⊙ var 3 ⊕ con (negsuc 0) ⊕ ⊖ var 3 ⊙ (var 1 ⊙ var 0 ⊕ var 2))
              (var 0 ⊙ ⊖ (var 1 ⊙ var 3) ⊕ con (negsuc 0)) tt)
              (mult-+ i.is (mult-* (neg_ℤ s) mult_self));
        }
  ]

  -- an integer is a multiple of p or has an inverse modulo p
  pub multiple_or_inverse : (d : ℤ) → Multiple p d ⊎ Inverse p d
  multiple_or_inverse d =
      let z = residue p (omega (arith, prime.big)) d in
      let r = z.is in
      elim (ℕ_discrete r 0) [
        | yes e ↦ inl (mult_as (ap (λ (x : ℕ). d -ℤ pos x) e ∙ ring (d ∷ []) (var 0 ⊕ ⊖ con (pos 0)) (var 0) tt) z.differs)
        | no e ↦
            let i = below r r (omega arith) (omega arith) z.low in
            inr (record {
              by = i.by;
              is = mult_as
                  (ring (d ∷ pos r ∷ i.by ∷ []) (var 2 ⊙ (var 0 ⊕ ⊖ var 1) ⊕ (var 1 ⊙ var 2 ⊕ con (negsuc 0))) (var 0 ⊙ var 2 ⊕ con (negsuc 0)) tt)
                  (mult-+ (mult-* i.by z.differs) i.is);
            })
      ]

  -- a prime that divides a product divides a factor
  pub euclid : (x y : ℤ) → Multiple p (x *ℤ y) → Multiple p x ⊎ Multiple p y
  euclid x y h = elim (multiple_or_inverse x) [
    | inl m ↦ inl m
    | inr i ↦ inr (mult_as
        (ring (x ∷ y ∷ i.by ∷ []) (var 2 ⊙ (var 0 ⊙ var 1) ⊕ ⊖ var 1 ⊙ (var 0 ⊙ var 2 ⊕ con (negsuc 0))) (var 1) tt)
        (mult-+ (mult-* i.by h) (mult-* (neg_ℤ y) i.is)))
  ]
