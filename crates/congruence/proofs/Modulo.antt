-- Matrices that are equal modulo n: their products, inverses and negatives are, and they meet the same conditions (`mod_meets`).
-- So a point can be kept as a matrix modulo n.
-- Assumes nothing.
use mathlib.Core.Logic.{inl, inr}
use mathlib.Core.List.{[], ◌∷◌}
use Prim.Native.Nat.{ℕ}
use lib.IntN.{ℤ, pos, negsuc, neg_ℤ, ◌+ℤ◌, ◌-ℤ◌, ◌*ℤ◌}
use Rattle.matrix.specs.Matrix.{Mat, ◌⊗◌, neg, adj}
use Rattle.matrix.proofs.Ring.{con, var, ◌⊕◌, ◌⊙◌, ⊖◌, ring}
use Rattle.congruence.specs.Congruence.{Multiple, Modulo, Meets}
use Rattle.congruence.specs.declared.Family.{Family}
use Rattle.congruence.specs.declared.Family.TheVariants as family
use Rattle.congruence.proofs.Signed.{Signed, Upper, Trivial, gamma1_as, gamma_as}
use Rattle.congruence.proofs.Multiple.{mult_as, mult_zero, mult-+, mult-*, mult_neg}

module _ {n : ℕ} where
  -- x y + z w, with each factor changed by a multiple
  change : (x x' y y' z z' w w' : ℤ) → Multiple n (x -ℤ x') → Multiple n (y -ℤ y') → Multiple n (z -ℤ z') → Multiple n (w -ℤ w')
      → Multiple n (x *ℤ y +ℤ z *ℤ w -ℤ (x' *ℤ y' +ℤ z' *ℤ w'))
  change x x' y y' z z' w w' h k l m = mult_as
      (ring (x ∷ x' ∷ y ∷ y' ∷ z ∷ z' ∷ w ∷ w' ∷ [])
      (var 2 ⊙ (var 0 ⊕ ⊖ var 1) ⊕ var 1 ⊙ (var 2 ⊕ ⊖ var 3) ⊕ (var 6 ⊙ (var 4 ⊕ ⊖ var 5) ⊕ var 5 ⊙ (var 6 ⊕ ⊖ var 7)))
      (var 0 ⊙ var 2 ⊕ var 4 ⊙ var 6 ⊕ ⊖ (var 1 ⊙ var 3 ⊕ var 5 ⊙ var 7)) tt)
      (mult-+ (mult-+ (mult-* y h) (mult-* x' k)) (mult-+ (mult-* w l) (mult-* z' m)))

  opposite : (x y : ℤ) → Multiple n (x -ℤ y) → Multiple n (neg_ℤ x -ℤ neg_ℤ y)
  opposite x y h = mult_as (ring (x ∷ y ∷ []) (⊖ (var 0 ⊕ ⊖ var 1)) (⊖ var 0 ⊕ ⊖ ⊖ var 1) tt) (mult_neg h)

  nothing : (x : ℤ) → Multiple n (x -ℤ x)
  nothing x = mult_as (ring (x ∷ []) (con (pos 0)) (var 0 ⊕ ⊖ var 0) tt) mult_zero

  both : (x y z : ℤ) → Multiple n (x -ℤ y) → Multiple n (y -ℤ z) → Multiple n (x -ℤ z)
  both x y z h k = mult_as (ring (x ∷ y ∷ z ∷ []) (var 0 ⊕ ⊖ var 1 ⊕ (var 1 ⊕ ⊖ var 2)) (var 0 ⊕ ⊖ var 2) tt) (mult-+ h k)

  turned : (x y : ℤ) → Multiple n (x -ℤ y) → Multiple n (y -ℤ x)
  turned x y h = mult_as (ring (x ∷ y ∷ []) (⊖ (var 0 ⊕ ⊖ var 1)) (var 1 ⊕ ⊖ var 0) tt) (mult_neg h)

  pub mod_product : {l l' m m' : Mat} → Modulo n l l' → Modulo n m m' → Modulo n (l ⊗ m) (l' ⊗ m')
  unfolding ◌⊗◌
  mod_product {l} {l'} {m} {m'} h k = record {
    a_is = change l.a l'.a m.a m'.a l.b l'.b m.c m'.c h.a_is k.a_is h.b_is k.c_is;
    b_is = change l.a l'.a m.b m'.b l.b l'.b m.d m'.d h.a_is k.b_is h.b_is k.d_is;
    c_is = change l.c l'.c m.a m'.a l.d l'.d m.c m'.c h.c_is k.a_is h.d_is k.c_is;
    d_is = change l.c l'.c m.b m'.b l.d l'.d m.d m'.d h.c_is k.b_is h.d_is k.d_is;
  }

  pub mod_adj : {l m : Mat} → Modulo n l m → Modulo n (adj l) (adj m)
  unfolding adj
  mod_adj {l} {m} h = record { a_is = h.d_is; b_is = opposite l.b m.b h.b_is; c_is = opposite l.c m.c h.c_is; d_is = h.a_is }

  pub mod_sym : {l m : Mat} → Modulo n l m → Modulo n m l
  mod_sym {l} {m} h = record {
    a_is = turned l.a m.a h.a_is;
    b_is = turned l.b m.b h.b_is;
    c_is = turned l.c m.c h.c_is;
    d_is = turned l.d m.d h.d_is;
  }

  pub mod_refl : {m : Mat} → Modulo n m m
  mod_refl {m} = record { a_is = nothing m.a; b_is = nothing m.b; c_is = nothing m.c; d_is = nothing m.d }

  pub mod_trans : {k l m : Mat} → Modulo n k l → Modulo n l m → Modulo n k m
  mod_trans {k} {l} {m} h i = record {
    a_is = both k.a l.a m.a h.a_is i.a_is;
    b_is = both k.b l.b m.b h.b_is i.b_is;
    c_is = both k.c l.c m.c h.c_is i.c_is;
    d_is = both k.d l.d m.d h.d_is i.d_is;
  }

  pub mod_neg : {l m : Mat} → Modulo n l m → Modulo n (neg l) (neg m)
  unfolding neg
  mod_neg {l} {m} h = record {
    a_is = opposite l.a m.a h.a_is;
    b_is = opposite l.b m.b h.b_is;
    c_is = opposite l.c m.c h.c_is;
    d_is = opposite l.d m.d h.d_is;
  }

  -- x is a multiple, or 1, with y
  zero_with : (x y : ℤ) → Multiple n (x -ℤ y) → Multiple n y → Multiple n x
  zero_with x y h k = mult_as (ring (x ∷ y ∷ []) (var 0 ⊕ ⊖ var 1 ⊕ var 1) (var 0) tt) (mult-+ h k)

  one_with : (x y : ℤ) → Multiple n (x -ℤ y) → Multiple n (y -ℤ pos 1) → Multiple n (x -ℤ pos 1)
  one_with x y h k = mult_as (ring (x ∷ y ∷ []) (var 0 ⊕ ⊖ var 1 ⊕ (var 1 ⊕ con (negsuc 0))) (var 0 ⊕ con (negsuc 0)) tt) (mult-+ h k)

  mod_upper : (l m : Mat) → Modulo n l m → Upper n m → Upper n l
  mod_upper l m h k = record {
    a_is = one_with l.a m.a h.a_is k.a_is;
    c_is = zero_with l.c m.c h.c_is k.c_is;
    d_is = one_with l.d m.d h.d_is k.d_is;
  }

  mod_trivial : (l m : Mat) → Modulo n l m → Trivial n m → Trivial n l
  mod_trivial l m h k = record {
    a_is = one_with l.a m.a h.a_is k.a_is;
    b_is = zero_with l.b m.b h.b_is k.b_is;
    c_is = zero_with l.c m.c h.c_is k.c_is;
    d_is = one_with l.d m.d h.d_is k.d_is;
  }

  mod_signed : {P : Mat → Type 0} → ((l m : Mat) → Modulo n l m → P m → P l) → (l m : Mat) → Modulo n l m → Signed P m → Signed P l
  mod_signed f l m h (inl k) = inl (f l m h k)
  mod_signed f l m h (inr k) = inr (f (neg l) (neg m) (mod_neg h) k)

pub mod_meets : (f : Family) (n : ℕ) (l m : Mat) → Modulo n l m → Meets f n m → Meets f n l
mod_meets family.Gamma0 n l m h k = zero_with l.c m.c h.c_is k
mod_meets family.Gamma1 n l m h k = (gamma1_as l).0 (mod_signed mod_upper l m h ((gamma1_as m).1 k))
mod_meets family.Gamma n l m h k = (gamma_as l).0 (mod_signed mod_trivial l m h ((gamma_as m).1 k))
