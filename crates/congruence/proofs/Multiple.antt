-- Laws of multiples of n among the integers, and of residues.
--
-- In order: sums, products, negatives; a factor cancelled; the residue of an integer modulo n, and that there is one only.
-- Assumes nothing.
use mathlib.Core.Path.{◌≡◌, refl, sym, ◌∙◌, ap}
use mathlib.Core.List.{[], ◌∷◌}
use Prim.Native.Nat.{ℕ, zero, suc, ◌+◌, ◌*◌, ◌-◌, ◌/◌, ◌%◌, ◌<◌}
use native.Mathlib.Omega.{arith}
use native.Mathlib.Nat.{mod-lt, div-add-mod'}
use lib.IntN.{ℤ, pos, negsuc, neg_ℤ, nat_abs, ◌+ℤ◌, ◌-ℤ◌, ◌*ℤ◌}
use Rattle.matrix.proofs.Integer.{difference, abs-*}
use Rattle.matrix.proofs.Ring.{con, var, ◌⊕◌, ◌⊙◌, ⊖◌, ring}
use Rattle.congruence.specs.Congruence.{Multiple}

module _ {n : ℕ} where
  pub mult_as : {y z : ℤ} → y ≡ z → Multiple n y → Multiple n z
  mult_as e h = record { times = h.times; is = sym e ∙ h.is }

  pub mult_self : Multiple n (pos n)
  mult_self = record { times = pos 1; is = ring (pos n ∷ []) (var 0) (con (pos 1) ⊙ var 0) tt }

  pub mult_zero : Multiple n (pos 0)
  mult_zero = record { times = pos 0; is = ring (pos n ∷ []) (con (pos 0)) (con (pos 0) ⊙ var 0) tt }

  pub mult-+ : {y z : ℤ} → Multiple n y → Multiple n z → Multiple n (y +ℤ z)
  mult-+ h k = record {
    times = h.times +ℤ k.times;
    is = cc (h.is, k.is, ring (h.times ∷ k.times ∷ pos n ∷ []) (var 0 ⊙ var 2 ⊕ var 1 ⊙ var 2) ((var 0 ⊕ var 1) ⊙ var 2) tt);
  }

  pub mult-* : (x : ℤ) {z : ℤ} → Multiple n z → Multiple n (x *ℤ z)
  mult-* x h = record { times = x *ℤ h.times; is = cc (h.is, ring (x ∷ h.times ∷ pos n ∷ []) (var 0 ⊙ (var 1 ⊙ var 2)) ((var 0 ⊙ var 1) ⊙ var 2) tt) }

  pub mult_neg : {z : ℤ} → Multiple n z → Multiple n (neg_ℤ z)
  mult_neg {z} h = mult_as (ring (z ∷ []) (con (negsuc 0) ⊙ var 0) (⊖ var 0) tt) (mult-* (negsuc 0) h)

-- ---- cancelling

abs_zero : (z : ℤ) → nat_abs z ≡ 0 → z ≡ pos 0
abs_zero (pos n) e = ap pos e
abs_zero (negsuc n) e = let no : ⊥ = omega arith in absurd no

product_zero : (a n : ℕ) → 0 < n → a * n ≡ 0 → a ≡ 0
product_zero zero n h e = refl
product_zero (suc a) n h e = let no : ⊥ = omega arith in absurd no

pub cancel : (n : ℕ) → 0 < n → (y z : ℤ) → y *ℤ pos n ≡ z *ℤ pos n → y ≡ z
cancel n h y z e =
    let d = y -ℤ z in
    let zero_is : d *ℤ pos n ≡ pos 0 =
    ring (y ∷ z ∷ pos n ∷ []) ((var 0 ⊕ ⊖ var 1) ⊙ var 2) (var 0 ⊙ var 2 ⊕ ⊖ (var 1 ⊙ var 2)) tt
    ∙ ap (λ (x : ℤ). x -ℤ z *ℤ pos n) e ∙ ring ((z *ℤ pos n) ∷ []) (var 0 ⊕ ⊖ var 0) (con (pos 0)) tt in
    difference y z (abs_zero d (product_zero (nat_abs d) n h (sym (abs-* d (pos n)) ∙ ap nat_abs zero_is)))

-- z n is a multiple of p n exactly when z is one of p
pub mult_up : {p : ℕ} (n : ℕ) {z : ℤ} → Multiple p z → Multiple (n * p) (z *ℤ pos n)
mult_up {p} n h = record { times = h.times; is = cc (h.is, ring (h.times ∷ pos p ∷ pos n ∷ []) (var 0 ⊙ var 1 ⊙ var 2) (var 0 ⊙ (var 2 ⊙ var 1)) tt) }

pub mult_down : {p : ℕ} (n : ℕ) → 0 < n → (z : ℤ) → Multiple (n * p) (z *ℤ pos n) → Multiple p z
mult_down {p} n h z k = record {
  times = k.times;
  is = cancel n h z (k.times *ℤ pos p) (k.is ∙ ring (k.times ∷ pos n ∷ pos p ∷ []) (var 0 ⊙ (var 1 ⊙ var 2)) (var 0 ⊙ var 2 ⊙ var 1) tt);
}

-- what is a multiple of n p is one of n
pub mult_part : (n p : ℕ) {z : ℤ} → Multiple (n * p) z → Multiple n z
mult_part n p h = record { times = h.times *ℤ pos p; is = h.is ∙ ring (h.times ∷ pos n ∷ pos p ∷ []) (var 0 ⊙ (var 1 ⊙ var 2)) (var 0 ⊙ var 2 ⊙ var 1) tt }

-- ---- residues

-- the residue of z modulo n: a number below n from which z differs by a multiple
pub record Residue (n : ℕ) (z : ℤ) : Type 0 where
  pub is : ℕ
  pub low : is < n
  pub differs : Multiple n (z -ℤ pos is)

pub residue : (n : ℕ) → 0 < n → (z : ℤ) → Residue n z
residue n h (pos k) = record {
  is = k % n;
  low = mod-lt k h;
  differs = record {
    times = pos (k / n);
    is = ap (λ (x : ℕ). pos x -ℤ pos (k % n)) (sym (div-add-mod' k n))
        ∙ ring (pos (k / n) ∷ pos n ∷ pos (k % n) ∷ []) (var 0 ⊙ var 1 ⊕ var 2 ⊕ ⊖ var 2) (var 0 ⊙ var 1) tt;
  };
}
residue n h (negsuc k) =
    let r = k % n in
    let low = mod-lt k h in
    let s = n - suc r in
    let e : suc k + s ≡ suc (k / n) * n = omega (arith, div-add-mod' k n) in
    record {
      is = s;
      low = omega arith;
      differs = record {
        times = negsuc (k / n);
        is = ring (pos (suc k) ∷ pos s ∷ []) (⊖ var 0 ⊕ ⊖ var 1) (⊖ (var 0 ⊕ var 1)) tt ∙ ap (λ (x : ℕ). neg_ℤ (pos x)) e
            ∙ ring (pos (suc (k / n)) ∷ pos n ∷ []) (⊖ (var 0 ⊙ var 1)) (⊖ var 0 ⊙ var 1) tt;
      };
    }

-- two numbers below n that differ by a multiple are equal
apart : (n j k : ℕ) (t : ℤ) → j < n → k < n → pos j ≡ t *ℤ pos n +ℤ pos k → j ≡ k
apart n j k (pos t) h l e = apart_nat n j k t h (ap nat_abs e)
  where
    apart_nat : (n j k t : ℕ) → j < n → j ≡ t * n + k → j ≡ k
    apart_nat n j k zero h e = omega arith
    apart_nat n j k (suc t) h e = let no : ⊥ = omega arith in absurd no
apart n j k (negsuc t) h l e =
    let f : pos k ≡ pos (suc t * n + j) =
    ring (pos (suc t) ∷ pos n ∷ pos k ∷ []) (var 2) (var 0 ⊙ var 1 ⊕ (⊖ var 0 ⊙ var 1 ⊕ var 2)) tt ∙ ap (λ (x : ℤ). pos (suc t) *ℤ pos n +ℤ x) (sym e) in
    let g : k ≡ suc t * n + j = ap nat_abs f in
    let no : ⊥ = omega arith in
    absurd no

pub residue_one : (n j k : ℕ) → j < n → k < n → Multiple n (pos j -ℤ pos k) → j ≡ k
residue_one n j k h l m = apart n j k m.times h l (ring (pos j ∷ pos k ∷ []) (var 0) (var 0 ⊕ ⊖ var 1 ⊕ var 1) tt ∙ ap (λ (x : ℤ). x +ℤ pos k) m.is)
