-- Congruence up to sign, `Sign n x y`: x is y or -y modulo n; units modulo n; and Γ1 by the entry d alone.
-- Assumes nothing.
use mathlib.Core.Path.{◌≡◌, sym, ◌∙◌, ap}
use mathlib.Core.Logic.{◌⊎◌, inl, inr}
use mathlib.Core.List.{[], ◌∷◌}
use Prim.Native.Nat.{ℕ, ◌+◌, ◌*◌, ◌/◌, ◌%◌, ◌≤◌, ◌<◌}
use native.Mathlib.Omega.{arith}
use native.Mathlib.Decide.{dec_lt}
use native.Mathlib.Nat.{mod-lt, div-add-mod'}
use lib.IntN.{ℤ, pos, negsuc, neg_ℤ, ◌+ℤ◌, ◌-ℤ◌, ◌*ℤ◌}
use mathlib.Core.Bool.{true}
use borrow.Author.Tests.{eqb-true, eq-eqb, ltb-true, lt-ltb}
use Rattle.matrix.specs.Matrix.{Mat, neg, det}
use Rattle.matrix.proofs.Ring.{con, var, ◌⊕◌, ◌⊙◌, ⊖◌, ring}
use Rattle.matrix.proofs.Matrix.{det_neg}
use Rattle.right_cosets.specs.Condition.{Unit}
use Rattle.congruence.specs.Congruence.{Multiple, Gamma0}
use Rattle.congruence.proofs.Signed.{Upper, SignedUpper}
use Rattle.basics.specs.Count.{first}
use Rattle.congruence.specs.Index.{is_inverse, is_unit}
use Rattle.congruence.proofs.Multiple.{mult_as, mult-+, mult-*, mult_neg, residue, residue_one}
use Rattle.congruence.proofs.Prime.{Inverse}
use Rattle.basics.proofs.Count.{found}
use Rattle.right_cosets.proofs.First.{first_some}

abbrev pub Sign : ℕ → ℤ → ℤ → Type 0
Sign n x y = Multiple n (x -ℤ y) ⊎ Multiple n (x +ℤ y)

module _ {n : ℕ} where
  -- x congruent to z, and z to y up to sign
  pub sign_from : (x z y : ℤ) → Multiple n (x -ℤ z) → Sign n z y → Sign n x y
  sign_from x z y h (inl k) = inl (mult_as (ring (x ∷ z ∷ y ∷ []) (var 0 ⊕ ⊖ var 1 ⊕ (var 1 ⊕ ⊖ var 2)) (var 0 ⊕ ⊖ var 2) tt) (mult-+ h k))
  sign_from x z y h (inr k) = inr (mult_as (ring (x ∷ z ∷ y ∷ []) (var 0 ⊕ ⊖ var 1 ⊕ (var 1 ⊕ var 2)) (var 0 ⊕ var 2) tt) (mult-+ h k))

  -- x to z up to sign, and z congruent to y
  pub sign_to : (x z y : ℤ) → Sign n x z → Multiple n (z -ℤ y) → Sign n x y
  sign_to x z y (inl k) h = inl (mult_as (ring (x ∷ z ∷ y ∷ []) (var 0 ⊕ ⊖ var 1 ⊕ (var 1 ⊕ ⊖ var 2)) (var 0 ⊕ ⊖ var 2) tt) (mult-+ k h))
  sign_to x z y (inr k) h = inr (mult_as (ring (x ∷ z ∷ y ∷ []) (var 0 ⊕ var 1 ⊕ ⊖ (var 1 ⊕ ⊖ var 2)) (var 0 ⊕ var 2) tt) (mult-+ k (mult_neg h)))

  pub sign_times : (x y k : ℤ) → Sign n x y → Sign n (x *ℤ k) (y *ℤ k)
  sign_times x y k (inl h) = inl (mult_as (ring (x ∷ y ∷ k ∷ []) (var 2 ⊙ (var 0 ⊕ ⊖ var 1)) (var 0 ⊙ var 2 ⊕ ⊖ (var 1 ⊙ var 2)) tt) (mult-* k h))
  sign_times x y k (inr h) = inr (mult_as (ring (x ∷ y ∷ k ∷ []) (var 2 ⊙ (var 0 ⊕ var 1)) (var 0 ⊙ var 2 ⊕ var 1 ⊙ var 2) tt) (mult-* k h))

  -- both from d
  pub sign_join : (d x y : ℤ) → Sign n d x → Sign n d y → Sign n x y
  sign_join d x y (inl h) (inl k) = inl (mult_as (ring (d ∷ x ∷ y ∷ []) (var 0 ⊕ ⊖ var 2 ⊕ ⊖ (var 0 ⊕ ⊖ var 1)) (var 1 ⊕ ⊖ var 2) tt) (mult-+ k (mult_neg h)))
  sign_join d x y (inl h) (inr k) = inr (mult_as (ring (d ∷ x ∷ y ∷ []) (var 0 ⊕ var 2 ⊕ ⊖ (var 0 ⊕ ⊖ var 1)) (var 1 ⊕ var 2) tt) (mult-+ k (mult_neg h)))
  sign_join d x y (inr h) (inl k) = inr (mult_as (ring (d ∷ x ∷ y ∷ []) (var 0 ⊕ var 1 ⊕ ⊖ (var 0 ⊕ ⊖ var 2)) (var 1 ⊕ var 2) tt) (mult-+ h (mult_neg k)))
  sign_join d x y (inr h) (inr k) = inl (mult_as (ring (d ∷ x ∷ y ∷ []) (var 0 ⊕ var 1 ⊕ ⊖ (var 0 ⊕ var 2)) (var 1 ⊕ ⊖ var 2) tt) (mult-+ h (mult_neg k)))

  -- what is d up to sign has an inverse with d
  pub sign_inverse : (d x : ℤ) → Sign n d x → Inverse n d → Inverse n x
  sign_inverse d x (inl h) i = record {
    by = i.by;
    is = mult_as (ring (d ∷ x ∷ i.by ∷ []) (var 0 ⊙ var 2 ⊕ con (negsuc 0) ⊕ ⊖ var 2 ⊙ (var 0 ⊕ ⊖ var 1)) (var 1 ⊙ var 2 ⊕ con (negsuc 0)) tt)
        (mult-+ i.is (mult-* (neg_ℤ i.by) h));
  }
  sign_inverse d x (inr h) i = record {
    by = neg_ℤ i.by;
    is = mult_as (ring (d ∷ x ∷ i.by ∷ []) (var 0 ⊙ var 2 ⊕ con (negsuc 0) ⊕ ⊖ var 2 ⊙ (var 0 ⊕ var 1)) (var 1 ⊙ ⊖ var 2 ⊕ con (negsuc 0)) tt)
        (mult-+ i.is (mult-* (neg_ℤ i.by) h));
  }

-- numbers up to n / 2 that are equal up to sign are equal
pub half_one : (n u w : ℕ) → u < n → w < n → u + u ≤ n → w + w ≤ n → Sign n (pos u) (pos w) → u ≡ w
half_one n u w h k a b (inl m) = residue_one n u w h k m
half_one n u w h k a b (inr m) = elim (dec_lt (u + w) n) [
  | yes l ↦ let z = residue_one n (u + w) 0 l (omega arith) (mult_as (ring (pos u ∷ pos w ∷ []) (var 0 ⊕ var 1) (var 0 ⊕ var 1 ⊕ ⊖ con (pos 0)) tt) m) in
      omega arith
  | no l ↦ omega arith
]

-- ---- units

pub mod_mult : (n x y : ℕ) → x % n ≡ y % n → Multiple n (pos x -ℤ pos y)
mod_mult n x y e = record {
  times = pos (x / n) -ℤ pos (y / n);
  is = ap (λ (z : ℕ). pos z -ℤ pos y) (sym (div-add-mod' x n)) ∙ ap (λ (z : ℕ). pos (x / n * n + x % n) -ℤ pos z) (sym (div-add-mod' y n))
      ∙ ap (λ (z : ℕ). pos (x / n * n + z) -ℤ pos (y / n * n + y % n)) e
      ∙ ring (pos (x / n) ∷ pos (y / n) ∷ pos n ∷ pos (y % n) ∷ []) (var 0 ⊙ var 2 ⊕ var 3 ⊕ ⊖ (var 1 ⊙ var 2 ⊕ var 3)) ((var 0 ⊕ ⊖ var 1) ⊙ var 2) tt;
}

pub mult_mod : (n x y : ℕ) → 0 < n → Multiple n (pos x -ℤ pos y) → x % n ≡ y % n
mult_mod n x y some h =
    let p = residue n some (pos x) in
    let q = residue n some (pos y) in
    residue_one n (x % n) (y % n) (mod-lt x some) (mod-lt y some) (mult_as
    (ring (pos x ∷ pos y ∷ pos (x % n) ∷ pos (y % n) ∷ []) (⊖ (var 0 ⊕ ⊖ var 2) ⊕ ((var 0 ⊕ ⊖ var 1) ⊕ (var 1 ⊕ ⊖ var 3))) (var 2 ⊕ ⊖ var 3) tt)
    (mult-+ (mult_neg (rest x some)) (mult-+ h (rest y some))))
  where
    rest : (x : ℕ) → 0 < n → Multiple n (pos x -ℤ pos (x % n))
    rest x h = record {
      times = pos (x / n);
      is = ap (λ (z : ℕ). pos z -ℤ pos (x % n)) (sym (div-add-mod' x n)) ∙ ring (pos (x / n) ∷ pos n ∷ pos (x % n) ∷ []) (var 0 ⊙ var 1 ⊕ var 2 ⊕ ⊖ var 2)
          (var 0 ⊙ var 1) tt;
    }

pub unit_inverse : (n u : ℕ) → is_unit n u ≡ true → Inverse n (pos u)
unit_inverse n u h =
    let v = first (is_inverse n u) n in
    record { by = pos v; is = mod_mult n (u * v) 1 (eqb-true (u * v % n) (1 % n) (found (is_inverse n u) n (ltb-true v n h)).passes) }

pub inverse_unit : (n u : ℕ) → 0 < n → Inverse n (pos u) → is_unit n u ≡ true
inverse_unit n u some i =
    let r = residue n some i.by in
    let v = r.is in
    let m : Multiple n (pos (u * v) -ℤ pos 1) = mult_as
    (ring (pos u ∷ i.by ∷ pos v ∷ []) (var 0 ⊙ var 1 ⊕ con (negsuc 0) ⊕ ⊖ var 0 ⊙ (var 1 ⊕ ⊖ var 2)) (var 0 ⊙ var 2 ⊕ con (negsuc 0)) tt)
    (mult-+ i.is (mult-* (neg_ℤ (pos u)) r.differs)) in
    lt-ltb (first (is_inverse n u) n) n (first_some (is_inverse n u) n v r.low (eq-eqb (u * v % n) (1 % n) (mult_mod n (u * v) 1 some m)))

-- ---- Γ1 by the entry d: where the determinant is 1 and c is 0, d tells a

a_by_d : (n : ℕ) (m : Mat) → Unit m → Multiple n m.c → Multiple n (m.d -ℤ pos 1) → Multiple n (m.a -ℤ pos 1)
unfolding det
a_by_d n m u h k = mult_as
    (ring (m.a ∷ m.b ∷ m.c ∷ m.d ∷ []) (⊖ var 0 ⊙ (var 3 ⊕ con (negsuc 0)) ⊕ var 1 ⊙ var 2) (var 0 ⊕ ⊖ (var 0 ⊙ var 3 ⊕ ⊖ (var 1 ⊙ var 2))) tt
    ∙ ap (λ (x : ℤ). m.a -ℤ x) u)
    (mult-+ (mult-* (neg_ℤ m.a) k) (mult-* m.b h))

upper_by : (n : ℕ) (m : Mat) → Unit m → Multiple n m.c → Multiple n (m.d -ℤ pos 1) → Upper n m
upper_by n m u h k = record { a_is = a_by_d n m u h k; c_is = h; d_is = k }

pub gamma1_by : (n : ℕ) (m : Mat) → Unit m → Multiple n m.c → Sign n m.d (pos 1) → SignedUpper n m
gamma1_by n m u h (inl k) = inl (upper_by n m u h k)
gamma1_by n m u h (inr k) = inr (upper_by n (neg m) (det_neg m ∙ u) (neg_c n m h) (neg_d n m k))
  where
    neg_c : (n : ℕ) (m : Mat) → Multiple n m.c → Multiple n (neg m).c
    neg_c n m h = unfold neg in mult_neg h

    neg_d : (n : ℕ) (m : Mat) → Multiple n (m.d +ℤ pos 1) → Multiple n ((neg m).d -ℤ pos 1)
    neg_d n m h = unfold neg in mult_as (ring (m.d ∷ []) (⊖ (var 0 ⊕ con (pos 1))) (⊖ var 0 ⊕ con (negsuc 0)) tt) (mult_neg h)

pub gamma1_d : (n : ℕ) (m : Mat) → SignedUpper n m → Sign n m.d (pos 1)
unfolding neg
gamma1_d n m (inl h) = inl h.d_is
gamma1_d n m (inr h) = inr (mult_as (ring (m.d ∷ []) (⊖ (⊖ var 0 ⊕ con (negsuc 0))) (var 0 ⊕ con (pos 1)) tt) (mult_neg h.d_is))

pub gamma1_inside : (n : ℕ) (m : Mat) → SignedUpper n m → Gamma0 n m
unfolding neg
gamma1_inside n m (inl h) = h.c_is
gamma1_inside n m (inr h) = mult_as (ring (m.c ∷ []) (⊖ ⊖ var 0) (var 0) tt) (mult_neg h.c_is)
