-- Multiples of multiples, inverses modulo a product, and the step of Euclid's lemma that Wohlfahrt's theorem needs: `one_of_two`.
-- Assumes nothing.
use mathlib.Core.Path.{sym, ◌∙◌, ap}
use mathlib.Core.Logic.{◌⊎◌, inl, inr}
use mathlib.Core.List.{[], ◌∷◌}
use Prim.Native.Nat.{ℕ, ◌*◌}
use lib.IntN.{ℤ, pos, negsuc, ◌+ℤ◌, ◌-ℤ◌, ◌*ℤ◌}
use Rattle.matrix.specs.Matrix.{Mat, det}
use Rattle.matrix.proofs.Ring.{con, var, ◌⊕◌, ◌⊙◌, ⊖◌, ring}
use Rattle.right_cosets.specs.Condition.{Unit}
use Rattle.congruence.specs.Congruence.{Multiple}
use Rattle.congruence.proofs.Multiple.{mult_as, mult_zero, mult-*}
use Rattle.congruence.proofs.Prime.{Least, Inverse, not_one, multiple_or_inverse, euclid}
use Rattle.wohlfahrt.proofs.Combine.{combine}

-- a multiple of a multiple
pub mult_mult : {p n : ℕ} {z : ℤ} → Multiple p (pos n) → Multiple n z → Multiple p z
mult_mult h k = mult_as (sym k.is) (mult-* k.times h)

pub mult_left : (x y : ℕ) → Multiple x (pos (x * y))
mult_left x y = record { times = pos y; is = ring (pos x ∷ pos y ∷ []) (var 0 ⊙ var 1) (var 1 ⊙ var 0) tt }

-- what is 0 modulo m, times what is 0 modulo n
pub mult_times : {m n : ℕ} {y z : ℤ} → Multiple m y → Multiple n z → Multiple (m * n) (y *ℤ z)
mult_times {m} {n} {y} {z} h k = record {
  times = h.times *ℤ k.times;
  is = ap (λ (v : ℤ). v *ℤ z) h.is ∙ ap (λ (v : ℤ). h.times *ℤ pos m *ℤ v) k.is
      ∙ ring (h.times ∷ k.times ∷ pos m ∷ pos n ∷ []) ((var 0 ⊙ var 2) ⊙ (var 1 ⊙ var 3)) ((var 0 ⊙ var 1) ⊙ (var 2 ⊙ var 3)) tt;
}

-- an inverse modulo m and one modulo n give one modulo m n
pub inverse_both : (m n : ℕ) (u : ℤ) → Inverse m u → Inverse n u → Inverse (m * n) u
inverse_both m n u h k =
    let v = h.by in
    let w = k.by in
    record {
      by = v +ℤ w -ℤ u *ℤ v *ℤ w;
      is = combine (u ∷ v ∷ w ∷ []) (var 0 ⊙ (var 1 ⊕ var 2 ⊕ ⊖ (var 0 ⊙ var 1 ⊙ var 2)) ⊕ con (negsuc 0))
          (con (negsuc 0) ⊙ ((var 0 ⊙ var 1 ⊕ con (negsuc 0)) ⊙ (var 0 ⊙ var 2 ⊕ con (negsuc 0)))) tt (mult_times h.is k.is);
    }

-- the determinant as a multiple
pub det_mult : (n : ℕ) (m : Mat) → Unit m → Multiple n (m.a *ℤ m.d -ℤ m.b *ℤ m.c -ℤ pos 1)
unfolding det
det_mult n m u = mult_as (sym (ap (λ (z : ℤ). z -ℤ pos 1) u)) mult_zero

-- where the matrix is 1 modulo n, d or c n + d has an inverse modulo the prime p
pub one_of_two : (p : ℕ) → Least p p → (n : ℕ) (m : Mat) → Unit m → Multiple n (m.d -ℤ pos 1)
    → Inverse p m.d ⊎ Inverse p (m.c *ℤ pos n +ℤ m.d)
one_of_two p prime n m u h = elim (multiple_or_inverse p prime m.d) [
  | inr i ↦ inl i
  | inl k ↦ elim (multiple_or_inverse p prime (m.c *ℤ pos n +ℤ m.d)) [
    | inr i ↦ inr i
    | inl l ↦
        let both : Multiple p (m.c *ℤ pos n) = combine (m.c ∷ pos n ∷ m.d ∷ []) (var 0 ⊙ var 1)
        (con (pos 1) ⊙ (var 0 ⊙ var 1 ⊕ var 2) ⊕ con (negsuc 0) ⊙ var 2) tt (l, k) in
        elim (euclid p prime m.c (pos n) both) [
          | inl x ↦ absurd (not_one p prime.big (combine (m.a ∷ m.b ∷ m.c ∷ m.d ∷ []) (con (pos 1))
              (var 0 ⊙ var 3 ⊕ (⊖ var 1 ⊙ var 2 ⊕ con (negsuc 0) ⊙ (var 0 ⊙ var 3 ⊕ ⊖ (var 1 ⊙ var 2) ⊕ con (negsuc 0)))) tt
              (k, (x, det_mult p m u))))
          | inr x ↦ absurd (not_one p prime.big (combine (m.d ∷ []) (con (pos 1))
              (con (pos 1) ⊙ var 0 ⊕ con (negsuc 0) ⊙ (var 0 ⊕ con (negsuc 0))) tt (k, mult_mult x h)))
        ]
  ]
]
