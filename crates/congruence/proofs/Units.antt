-- Laws of units modulo n and of their count up to sign: u is a unit exactly when the common divisor g of n and u is 1.
-- Why: g = s u modulo n, so with g = 1 the inverse of u is s; and g divides u v - 1 for an inverse v, and u, so it divides 1.
-- Assumes nothing.
use mathlib.Core.Path.{◌≡◌, refl, sym, ◌∙◌, ap}
use mathlib.Core.Logic.{inl, inr}
use mathlib.Core.Bool.{Bool, true, false, ◌&&◌}
use mathlib.Core.List.{[], ◌∷◌}
use Prim.Native.Nat.{ℕ, suc, ◌+◌, ◌*◌, ◌≤◌, ◌<◌, ◌∣◌}
use native.Mathlib.Omega.{arith}
use native.Mathlib.Decide.{ℕ_discrete}
use native.Mathlib.Nat.{eq-one_of_dvd-one}
use lib.Dec.{eqb}
use lib.IntN.{ℤ, pos, negsuc, ◌-ℤ◌}
use borrow.Author.Tests.{eq-eqb, ne_eqb, le-leb}
use Rattle.basics.specs.Count.{count}
use Rattle.basics.proofs.Choice.{either}
use Rattle.basics.proofs.Count.{count_yes, count_no, count_le}
use Rattle.matrix.proofs.Ring.{con, var, ◌⊕◌, ◌⊙◌, ⊖◌, ring}
use Rattle.congruence.specs.Congruence.{Multiple}
use Rattle.congruence.specs.Index.{is_unit, is_half_unit, half_units}
use Rattle.congruence.proofs.Multiple.{mult_as, mult-+, mult-*, mult_neg}
use Rattle.congruence.proofs.Prime.{Inverse}
use Rattle.congruence.proofs.Factor.{dvd_mult, mult_dvd}
use Rattle.congruence.proofs.Sign.{unit_inverse, inverse_unit}
use Rattle.congruence.specs.Inner.Common.{CommonOf}
use Rattle.congruence.specs.declared.modular.Common.{Common}

-- a multiple of n is one of each divisor of n
mult_divisor : {g n : ℕ} → g ∣ n → {z : ℤ} → Multiple n z → Multiple g z
mult_divisor d h = mult_as (sym h.is) (mult-* h.times (dvd_mult d))

common_inverse : {n u : ℕ} {r : Common} → CommonOf n u r → r.g ≡ 1 → Inverse n (pos u)
common_inverse {n} {u} {r} h e = record {
  by = pos r.s;
  is = mult_as
      (ap (λ (z : ℕ). pos (r.s * u) -ℤ pos z) e ∙ ring (pos r.s ∷ pos u ∷ []) (var 0 ⊙ var 1 ⊕ con (negsuc 0)) (var 1 ⊙ var 0 ⊕ con (negsuc 0)) tt)
      h.is;
}

inverse_common : {n u : ℕ} {r : Common} → CommonOf n u r → Inverse n (pos u) → r.g ≡ 1
inverse_common {n} {u} {r} h i =
    let one : Multiple r.g (pos 1) = mult_as
    (ring (pos u ∷ i.by ∷ []) (var 1 ⊙ var 0 ⊕ ⊖ (var 0 ⊙ var 1 ⊕ con (negsuc 0))) (con (pos 1)) tt)
    (mult-+ (mult-* i.by (dvd_mult h.divides_c)) (mult_neg (mult_divisor h.divides_n i.is))) in
    eq-one_of_dvd-one (mult_dvd r.g 1 one)

pub unit_common : {n u : ℕ} {r : Common} → 0 < n → CommonOf n u r → is_unit n u ≡ eqb r.g 1
unit_common {n} {u} {r} some h = elim (ℕ_discrete r.g 1) [
  | yes e ↦ inverse_unit n u some (common_inverse h e) ∙ sym (eq-eqb r.g 1 e)
  | no ne ↦ elim (either (is_unit n u)) [
    | inl t ↦ absurd (ne (inverse_common h (unit_inverse n u t)))
    | inr f ↦ f ∙ sym (ne_eqb r.g 1 ne)
  ]
]

-- ---- the test

and_true : (b : Bool) → b && true ≡ b
and_true true = refl
and_true false = refl

pub half_common : {n u : ℕ} {r : Common} → 0 < n → u + u ≤ n → CommonOf n u r → eqb r.g 1 ≡ is_half_unit n u
half_common {n} {u} {r} some h common =
    sym (ap (λ (b : Bool). is_unit n u && b) (le-leb (u + u) n h) ∙ and_true (is_unit n u) ∙ unit_common some common)

-- ---- the count

-- the units up to sign below u have been counted
pub record Counted (n count-now u : ℕ) : Type 0 where
  pub low : u ≤ n
  pub is : count-now ≡ count (is_half_unit n) u

pub counted_none : (n : ℕ) → Counted n 0 0
counted_none n = record { low = omega arith; is = refl }

pub counted_few : {n k u : ℕ} → Counted n k u → k ≤ u
counted_few {n} {k} {u} h = omega (arith, h.is, count_le (is_half_unit n) u)

next : (f : ℕ → Bool) (u : ℕ) → count f (suc u) ≡ count f (u + 1)
next f u = let e : suc u ≡ u + 1 = omega arith in ap (count f) e

pub counted_yes : {n k k' u : ℕ} → Counted n k u → u < n → is_half_unit n u ≡ true → k' ≡ k + 1 → Counted n k' (u + 1)
counted_yes {n} {k} {k'} {u} h l e z = record {
  low = omega arith;
  is = z ∙ ap (λ (x : ℕ). x + 1) h.is ∙ sym (count_yes (is_half_unit n) u e) ∙ next (is_half_unit n) u;
}

pub counted_no : {n k k' u : ℕ} → Counted n k u → u < n → is_half_unit n u ≡ false → k' ≡ k → Counted n k' (u + 1)
counted_no {n} {k} {k'} {u} h l e z = record { low = omega arith; is = z ∙ h.is ∙ sym (count_no (is_half_unit n) u e) ∙ next (is_half_unit n) u }

pub counted_all : {n k u : ℕ} → Counted n k u → n ≤ u → (k ≡ half_units n) × (k ≤ n)
counted_all {n} {k} {u} h l = let e : u ≡ n = omega (arith, h.low) in (h.is ∙ ap (count (is_half_unit n)) e, omega (arith, counted_few h))
