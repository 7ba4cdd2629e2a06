-- One prime power q of a number n, and the powers of T and L that belong to it.
--
--   Part n             p prime, q = pᵏ, k from 1, q rest = n, and an exponent e that is 1 modulo q and 0 modulo rest
--   part_q b           q
--   part_x σ κ e s j   where T to the power e s leads from j; part_y: L
--
-- In order: powers of T and L that differ by a multiple of n lead alike, where T^n moves nothing; so part_x and part_y have powers modulo q.
-- Assumes nothing.
use mathlib.Core.Path.{◌≡◌, sym, ◌∙◌, ap}
use mathlib.Core.Bool.{true}
use mathlib.Core.List.{[], ◌∷◌}
use Prim.Native.Nat.{ℕ, suc, ◌*◌, ◌^◌}
use lib.IntN.{ℤ, pos, ◌+ℤ◌, ◌-ℤ◌, ◌*ℤ◌}
use Rattle.matrix.specs.Action as action
use Rattle.matrix.specs.Theorems.{Acts}
use Rattle.matrix.proofs.Ring.{con, var, ◌⊕◌, ◌⊙◌, ⊖◌, ring}
use Rattle.congruence.specs.Congruence.{Multiple}
use Rattle.congruence.specs.Index.{is_prime}
use Rattle.congruence.proofs.Multiple.{mult_as}
use Rattle.wohlfahrt.proofs.Combine.{combine}
use Rattle.wohlfahrt.proofs.Powers.{upper, lower, unit_lower, lower-+, lower_zero}
use Rattle.wohlfahrt.proofs.Acting.{Wide, at_upper-+, at_zero_lem, still_upper, still_lower}
use Rattle.wohlfahrt.proofs.Inverting.{mult_times}
use Rattle.congruence_decision.proofs.Relations.{Powers}

pub record Part (n : ℕ) : Type 0 where
  pub p : ℕ
  pub k : ℕ
  pub rest : ℕ
  pub e : ℤ
  pub prime : is_prime p ≡ true
  pub whole : p ^ suc k * rest ≡ n
  pub one : Multiple (p ^ suc k) (e -ℤ pos 1)
  pub zero : Multiple rest e

abbrev pub part_q : {n : ℕ} → Part n → ℕ
part_q a = a.p ^ suc a.k

module _ {X : Type 0} (σ κ : X → X) where
  abbrev pub part_x : ℤ → ℤ → X → X
  part_x e s j = action.at σ κ j (upper (e *ℤ s))

  abbrev pub part_y : ℤ → ℤ → X → X
  part_y e s j = action.at σ κ j (lower (e *ℤ s))

-- a multiple of q, times e, is a multiple of n
e_mult : {n : ℕ} (a : Part n) {z : ℤ} → Multiple (part_q a) z → Multiple n (z *ℤ a.e)
e_mult a h = rw a.whole at (mult_times h a.zero)

module _ {X : Type 0} {σ κ : X → X} (ac : Acts σ κ) where
  pub at_lower-+ : (s t : ℤ) (j : X) → action.at σ κ j (lower (s +ℤ t)) ≡ action.at σ κ (action.at σ κ j (lower s)) (lower t)
  at_lower-+ s t j = ap (action.at σ κ j) (lower-+ s t) ∙ ac.product j (lower s) (lower t) (unit_lower s) (unit_lower t)

  -- the order of two powers doesn't matter
  pub upper_swap : (s t : ℤ) (j : X) → action.at σ κ (action.at σ κ j (upper s)) (upper t) ≡ action.at σ κ (action.at σ κ j (upper t)) (upper s)
  upper_swap s t j = sym (at_upper-+ ac s t j)
      ∙ ap (λ (z : ℤ). action.at σ κ j (upper z)) (ring (s ∷ t ∷ []) (var 0 ⊕ var 1) (var 1 ⊕ var 0) tt) ∙ at_upper-+ ac t s j

  pub lower_swap : (s t : ℤ) (j : X) → action.at σ κ (action.at σ κ j (lower s)) (lower t) ≡ action.at σ κ (action.at σ κ j (lower t)) (lower s)
  lower_swap s t j = sym (at_lower-+ s t j)
      ∙ ap (λ (z : ℤ). action.at σ κ j (lower z)) (ring (s ∷ t ∷ []) (var 0 ⊕ var 1) (var 1 ⊕ var 0) tt) ∙ at_lower-+ t s j

  module _ (n : ℕ) (wide : Wide σ κ n) where
    pub same_upper : (s t : ℤ) → Multiple n (s -ℤ t) → (j : X) → action.at σ κ j (upper s) ≡ action.at σ κ j (upper t)
    same_upper s t h j =
        ap (λ (z : ℤ). action.at σ κ j (upper z)) (ring (s ∷ t ∷ []) (var 0) (var 1 ⊕ (var 0 ⊕ ⊖ var 1)) tt)
        ∙ at_upper-+ ac t (s -ℤ t) j ∙ still_upper ac n wide (s -ℤ t) h (action.at σ κ j (upper t))

    pub same_lower : (s t : ℤ) → Multiple n (s -ℤ t) → (j : X) → action.at σ κ j (lower s) ≡ action.at σ κ j (lower t)
    same_lower s t h j =
        ap (λ (z : ℤ). action.at σ κ j (lower z)) (ring (s ∷ t ∷ []) (var 0) (var 1 ⊕ (var 0 ⊕ ⊖ var 1)) tt)
        ∙ at_lower-+ t (s -ℤ t) j ∙ still_lower ac n wide (s -ℤ t) h (action.at σ κ j (lower t))

    times_mult : (a : Part n) (s t : ℤ) → Multiple (part_q a) (s -ℤ t) → Multiple n (a.e *ℤ s -ℤ a.e *ℤ t)
    times_mult a s t h = mult_as
        (ring (a.e ∷ s ∷ t ∷ []) ((var 1 ⊕ ⊖ var 2) ⊙ var 0) (var 0 ⊙ var 1 ⊕ ⊖ (var 0 ⊙ var 2)) tt) (e_mult a h)

    pub powers_X : (a : Part n) → Powers (part_q a) (part_x σ κ a.e)
    powers_X a = let e = a.e in record {
      none = λ j. ap (λ (z : ℤ). action.at σ κ j (upper z)) (ring (e ∷ []) (var 0 ⊙ con (pos 0)) (con (pos 0)) tt) ∙ at_zero_lem ac j;
      sum = λ s t j.
          ap (λ (z : ℤ). action.at σ κ j (upper z)) (ring (e ∷ s ∷ t ∷ []) (var 0 ⊙ (var 1 ⊕ var 2)) (var 0 ⊙ var 1 ⊕ var 0 ⊙ var 2) tt)
          ∙ at_upper-+ ac (e *ℤ s) (e *ℤ t) j;
      period = λ s t h j. same_upper (e *ℤ s) (e *ℤ t) (times_mult a s t h) j;
    }

    -- powers of L^f: modulo n for any f, modulo q for that of a part
    powers_by : (f : ℤ) (q : ℕ) → ((s t : ℤ) → Multiple q (s -ℤ t) → Multiple n (f *ℤ s -ℤ f *ℤ t)) → Powers q (part_y σ κ f)
    powers_by f q less = record {
      none = λ j. ap (action.at σ κ j) (ap lower (ring (f ∷ []) (var 0 ⊙ con (pos 0)) (con (pos 0)) tt) ∙ lower_zero) ∙ ac.identity j;
      sum = λ s t j.
          ap (λ (z : ℤ). action.at σ κ j (lower z)) (ring (f ∷ s ∷ t ∷ []) (var 0 ⊙ (var 1 ⊕ var 2)) (var 0 ⊙ var 1 ⊕ var 0 ⊙ var 2) tt)
          ∙ at_lower-+ (f *ℤ s) (f *ℤ t) j;
      period = λ s t h j. same_lower (f *ℤ s) (f *ℤ t) (less s t h) j;
    }

    pub powers_Y : (a : Part n) → Powers (part_q a) (part_y σ κ a.e)
    powers_Y a = powers_by a.e (part_q a) (times_mult a)

    pub powers_L : (f : ℤ) → Powers n (part_y σ κ f)
    powers_L f = powers_by f n (λ s t h. combine (f ∷ s ∷ t ∷ []) (var 0 ⊙ var 1 ⊕ ⊖ (var 0 ⊙ var 2)) (var 0 ⊙ (var 1 ⊕ ⊖ var 2)) tt h)
