-- A property up to sign, and the families Γ1 and Γ as such: the form in which they are proved to be conditions (proofs/Conditions.antt).
--
--   Signed P m          m or its negative has the property P
--   Upper n m           c is 0, a and d are 1 modulo n; so SignedUpper n is Gamma1 n (`gamma1_as`)
--   Trivial n m         m is the identity modulo n; so SignedTrivial n is Gamma n (`gamma_as`)
-- Assumes nothing.
use mathlib.Core.Logic.{◌⊎◌, inl, inr, ◌↔◌}
use mathlib.Core.List.{[], ◌∷◌}
use Prim.Native.Nat.{ℕ}
use lib.IntN.{ℤ, pos, negsuc, neg_ℤ, ◌-ℤ◌}
use Rattle.matrix.specs.Matrix.{Mat, 𝟙, neg}
use Rattle.matrix.proofs.Ring.{con, var, ◌⊕◌, ⊖◌, ring}
use Rattle.congruence.specs.Congruence.{Multiple, Gamma1, Gamma}
use Rattle.congruence.proofs.Multiple.{mult_as, mult_neg}

abbrev pub Signed : (Mat → Type 0) → Mat → Type 0
Signed P m = P m ⊎ P (neg m)

pub record Upper (n : ℕ) (m : Mat) : Type 0 where
  pub a_is : Multiple n (m.a -ℤ pos 1)
  pub c_is : Multiple n m.c
  pub d_is : Multiple n (m.d -ℤ pos 1)

pub record Trivial (n : ℕ) (m : Mat) : Type 0 where
  pub a_is : Multiple n (m.a -ℤ pos 1)
  pub b_is : Multiple n m.b
  pub c_is : Multiple n m.c
  pub d_is : Multiple n (m.d -ℤ pos 1)

abbrev pub SignedUpper : ℕ → Mat → Type 0
SignedUpper n = Signed (Upper n)

abbrev pub SignedTrivial : ℕ → Mat → Type 0
SignedTrivial n = Signed (Trivial n)

module _ {n : ℕ} where
  -- x is -1 exactly when -x is 1
  turn : (x : ℤ) → Multiple n (neg_ℤ x -ℤ pos 1) → Multiple n (x -ℤ negsuc 0)
  turn x h = mult_as (ring (x ∷ []) (⊖ (⊖ var 0 ⊕ con (negsuc 0))) (var 0 ⊕ con (pos 1)) tt) (mult_neg h)

  back : (x : ℤ) → Multiple n (x -ℤ negsuc 0) → Multiple n (neg_ℤ x -ℤ pos 1)
  back x h = mult_as (ring (x ∷ []) (⊖ (var 0 ⊕ con (pos 1))) (⊖ var 0 ⊕ con (negsuc 0)) tt) (mult_neg h)

  even : (x : ℤ) → Multiple n (neg_ℤ x) → Multiple n x
  even x h = mult_as (ring (x ∷ []) (⊖ ⊖ var 0) (var 0) tt) (mult_neg h)

  -- x - 0 is x
  less : (x : ℤ) → Multiple n x → Multiple n (x -ℤ pos 0)
  less x h = mult_as (ring (x ∷ []) (var 0) (var 0 ⊕ ⊖ con (pos 0)) tt) h

  more : (x : ℤ) → Multiple n (x -ℤ pos 0) → Multiple n x
  more x h = mult_as (ring (x ∷ []) (var 0 ⊕ ⊖ con (pos 0)) (var 0) tt) h

  to_gamma1 : (m : Mat) → SignedUpper n m → Gamma1 n m
  unfolding neg
  to_gamma1 m (inl h) = (h.c_is, inl (record { a_is = h.a_is; d_is = h.d_is }))
  to_gamma1 m (inr h) = (even m.c h.c_is, inr (record { a_is = turn m.a h.a_is; d_is = turn m.d h.d_is }))

  from_gamma1 : (m : Mat) → Gamma1 n m → SignedUpper n m
  unfolding neg
  from_gamma1 m (c, inl h) = inl (record { a_is = h.a_is; c_is = c; d_is = h.d_is })
  from_gamma1 m (c, inr h) = inr (record { a_is = back m.a h.a_is; c_is = mult_neg c; d_is = back m.d h.d_is })

  to_gamma : (m : Mat) → SignedTrivial n m → Gamma n m
  unfolding neg 𝟙
  to_gamma m (inl h) = inl (record { a_is = h.a_is; b_is = less m.b h.b_is; c_is = less m.c h.c_is; d_is = h.d_is })
  to_gamma m (inr h) = inr (record {
    a_is = turn m.a h.a_is;
    b_is = less m.b (even m.b h.b_is);
    c_is = less m.c (even m.c h.c_is);
    d_is = turn m.d h.d_is;
  })

  from_gamma : (m : Mat) → Gamma n m → SignedTrivial n m
  unfolding neg 𝟙
  from_gamma m (inl h) = inl (record { a_is = h.a_is; b_is = more m.b h.b_is; c_is = more m.c h.c_is; d_is = h.d_is })
  from_gamma m (inr h) = inr (record {
    a_is = back m.a h.a_is;
    b_is = mult_neg (more m.b h.b_is);
    c_is = mult_neg (more m.c h.c_is);
    d_is = back m.d h.d_is;
  })

  pub gamma1_as : (m : Mat) → SignedUpper n m ↔ Gamma1 n m
  gamma1_as m = (to_gamma1 m, from_gamma1 m)

  pub gamma_as : (m : Mat) → SignedTrivial n m ↔ Gamma n m
  gamma_as m = (to_gamma m, from_gamma m)
