-- Each family is a condition, for every n: `gamma0`, `gamma1`, `gamma`.
--
-- In order: Γ0; a property that the identity has, and with two matrices their product, with a matrix its inverse, is a condition up to sign
-- (`signed`); Γ1 and Γ.
-- Assumes nothing.
use mathlib.Core.Logic.{inl, inr}
use mathlib.Core.List.{[], ◌∷◌}
use Prim.Native.Nat.{ℕ}
use lib.IntN.{ℤ, pos, negsuc, ◌+ℤ◌, ◌-ℤ◌, ◌*ℤ◌}
use Rattle.matrix.specs.Matrix.{Mat, ◌⊗◌, 𝟙, neg, adj}
use Rattle.matrix.proofs.Ring.{con, var, ◌⊕◌, ◌⊙◌, ring}
use Rattle.matrix.proofs.Matrix.{neg_neg, neg-⊗, ⊗-neg, adj_neg}
use Rattle.right_cosets.specs.Condition.{Condition}
use Rattle.congruence.specs.Congruence.{Multiple, Gamma0}
use Rattle.congruence.proofs.Signed.{Signed, Upper, SignedUpper, Trivial, SignedTrivial}
use Rattle.congruence.proofs.Multiple.{mult_as, mult_zero, mult-+, mult-*, mult_neg}

-- x y + z w, where y and z are multiples
cross : {n : ℕ} (x : ℤ) {y z : ℤ} (w : ℤ) → Multiple n y → Multiple n z → Multiple n (x *ℤ y +ℤ z *ℤ w)
cross x {y} {z} w h k = mult_as (ring (x ∷ y ∷ z ∷ w ∷ []) (var 0 ⊙ var 1 ⊕ var 3 ⊙ var 2) (var 0 ⊙ var 1 ⊕ var 2 ⊙ var 3) tt)
    (mult-+ (mult-* x h) (mult-* w k))

-- x y + z w, where x and y are 1, and w is 0
ones : {n : ℕ} (x y z : ℤ) {w : ℤ} → Multiple n (x -ℤ pos 1) → Multiple n (y -ℤ pos 1) → Multiple n w → Multiple n (x *ℤ y +ℤ z *ℤ w -ℤ pos 1)
ones x y z {w} h k l = mult_as
    (ring (x ∷ y ∷ z ∷ w ∷ []) (var 1 ⊙ (var 0 ⊕ con (negsuc 0)) ⊕ (var 1 ⊕ con (negsuc 0)) ⊕ var 2 ⊙ var 3) (var 0 ⊙ var 1 ⊕ var 2 ⊙ var 3 ⊕ con (negsuc 0))
    tt)
    (mult-+ (mult-+ (mult-* y h) k) (mult-* z l))

-- z w + x y, where x and y are 1, and z is 0
ones' : {n : ℕ} (x y : ℤ) {z : ℤ} (w : ℤ) → Multiple n (x -ℤ pos 1) → Multiple n (y -ℤ pos 1) → Multiple n z → Multiple n (z *ℤ w +ℤ x *ℤ y -ℤ pos 1)
ones' x y {z} w h k l = mult_as
    (ring (x ∷ y ∷ z ∷ w ∷ []) (var 0 ⊙ var 1 ⊕ var 3 ⊙ var 2 ⊕ con (negsuc 0)) (var 2 ⊙ var 3 ⊕ var 0 ⊙ var 1 ⊕ con (negsuc 0)) tt)
    (ones x y w h k l)

module _ (n : ℕ) where
  pub gamma0 : Condition (Gamma0 n)
  unfolding ◌⊗◌ 𝟙 neg adj
  gamma0 = record {
    one = mult_zero;
    product = λ l m h k. mult_as (ring (l.d ∷ m.c ∷ l.c ∷ m.a ∷ []) (var 0 ⊙ var 1 ⊕ var 2 ⊙ var 3) (var 2 ⊙ var 3 ⊕ var 0 ⊙ var 1) tt)
        (cross l.d m.a k h);
    inverse = λ m h. mult_neg h;
    sign = λ m h. mult_neg h;
  }

  upper_one : Upper n 𝟙
  unfolding 𝟙
  upper_one = record { a_is = mult_zero; c_is = mult_zero; d_is = mult_zero }

  upper_product : (l m : Mat) → Upper n l → Upper n m → Upper n (l ⊗ m)
  unfolding ◌⊗◌
  upper_product l m h k = record {
    a_is = ones l.a m.a l.b h.a_is k.a_is k.c_is;
    c_is = gamma0.product l m h.c_is k.c_is;
    d_is = ones' l.d m.d m.b h.d_is k.d_is h.c_is;
  }

  upper_inverse : (m : Mat) → Upper n m → Upper n (adj m)
  unfolding adj
  upper_inverse m h = record { a_is = h.d_is; c_is = mult_neg h.c_is; d_is = h.a_is }

  trivial_one : Trivial n 𝟙
  unfolding 𝟙
  trivial_one = record { a_is = mult_zero; b_is = mult_zero; c_is = mult_zero; d_is = mult_zero }

  trivial_product : (l m : Mat) → Trivial n l → Trivial n m → Trivial n (l ⊗ m)
  unfolding ◌⊗◌
  trivial_product l m h k = record {
    a_is = ones l.a m.a l.b h.a_is k.a_is k.c_is;
    b_is = cross l.a m.d k.b_is h.b_is;
    c_is = gamma0.product l m h.c_is k.c_is;
    d_is = ones' l.d m.d m.b h.d_is k.d_is h.c_is;
  }

  trivial_inverse : (m : Mat) → Trivial n m → Trivial n (adj m)
  unfolding adj
  trivial_inverse m h = record { a_is = h.d_is; b_is = mult_neg h.b_is; c_is = mult_neg h.c_is; d_is = h.a_is }

module _ (P : Mat → Type 0) (one : P 𝟙) (product : (m n : Mat) → P m → P n → P (m ⊗ n)) (inverse : (m : Mat) → P m → P (adj m)) where
  signed_product : (m n : Mat) → Signed P m → Signed P n → Signed P (m ⊗ n)
  signed_product m n (inl h) (inl k) = inl (product m n h k)
  signed_product m n (inl h) (inr k) = inr (rw (⊗-neg m n) at (product m (neg n) h k))
  signed_product m n (inr h) (inl k) = inr (rw (neg-⊗ m n) at (product (neg m) n h k))
  signed_product m n (inr h) (inr k) = inl (rw (neg-⊗ m (neg n), ⊗-neg m n, neg_neg (m ⊗ n)) at (product (neg m) (neg n) h k))

  signed_inverse : (m : Mat) → Signed P m → Signed P (adj m)
  signed_inverse m (inl h) = inl (inverse m h)
  signed_inverse m (inr h) = inr (rw (adj_neg m) at (inverse (neg m) h))

  signed_sign : (m : Mat) → Signed P m → Signed P (neg m)
  signed_sign m (inl h) = inr (rw (neg_neg m) h)
  signed_sign m (inr h) = inl h

  pub signed : Condition (Signed P)
  signed = record { one = inl one; product = signed_product; inverse = signed_inverse; sign = signed_sign }

pub gamma1 : (n : ℕ) → Condition (SignedUpper n)
gamma1 n = signed (Upper n) (upper_one n) (upper_product n) (upper_inverse n)

pub gamma : (n : ℕ) → Condition (SignedTrivial n)
gamma n = signed (Trivial n) (trivial_one n) (trivial_product n) (trivial_inverse n)
