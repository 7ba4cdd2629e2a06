-- From 3 on, half of the units modulo n are counted up to sign: `phi_half`. So the index of Γ1(n) is that of Γ0(n) times φ(n) / 2: `index1_phi`.
-- Why: u and n - u are units together, and 2 u = n would make n divide 2. So u to n - u takes the units up to n / 2 to the others, and back.
-- Assumes nothing.
use mathlib.Core.Path.{◌≡◌, refl, sym, ◌∙◌, ap}
use mathlib.Core.Logic.{inl, inr, ◌≢◌}
use mathlib.Core.Bool.{Bool, true, not, ◌&&◌}
use mathlib.Core.List.{List, [], ◌∷◌}
use Prim.Native.Nat.{ℕ, zero, suc, ◌+◌, ◌*◌, ◌-◌, ◌/◌, ◌≤◌, ◌<◌}
use native.Mathlib.Omega.{arith}
use lib.ListN.{length, get_or}
use lib.Dec.{leb}
use lib.IntN.{pos, negsuc, neg_ℤ, ◌+ℤ◌, ◌-ℤ◌, ◌*ℤ◌}
use borrow.Author.Tests.{leb-true, leb-false, le-leb, lt-leb, not-true}
use Rattle.matrix.proofs.Ring.{con, var, ◌⊕◌, ◌⊙◌, ⊖◌, ring}
use Rattle.basics.specs.Count.{count, those}
use Rattle.basics.proofs.Choice.{either}
use Rattle.basics.proofs.Count.{count_yes, count_no, length_those}
use Rattle.numbering.specs.Find.{find, ◌∈◌, Once}
use Rattle.numbering.proofs.Find.{get_d_find, get_d_in, once_inj, pigeonhole}
use Rattle.numbering.proofs.Those.{those_once, those_low, those_true, those_in}
use Rattle.congruence.specs.Congruence.{Multiple}
use Rattle.congruence.specs.Index.{is_unit, phi, half_units, index0, index1}
use Rattle.congruence.proofs.Multiple.{mult_as, mult_self, mult-+, mult-*, mult_neg, residue_one}
use Rattle.congruence.proofs.Prime.{Inverse, not_one}
use Rattle.congruence.proofs.Step1.{both_true}
use Rattle.congruence.proofs.Sign.{sign_inverse, unit_inverse, inverse_unit}

-- those that pass p, with and without q
count_split : (p q : ℕ → Bool) (n : ℕ) → count p n ≡ count (λ (u : ℕ). p u && q u) n + count (λ (u : ℕ). p u && not (q u)) n
count_split p q zero = refl
count_split p q (suc n) =
    let h = count_split p q n in
    let a : ℕ → Bool = λ u. p u && q u in
    let b : ℕ → Bool = λ u. p u && not (q u) in
    elim (either (p n)) [
      | inl e ↦ elim (either (q n)) [
        | inl d ↦ omega (arith, count_yes p n e, count_yes a n (rw (e, d)), count_no b n (rw (e, d)))
        | inr d ↦ omega (arith, count_yes p n e, count_no a n (rw (e, d)), count_yes b n (rw (e, d)))
      ]
      | inr e ↦ omega (arith, count_no p n e, count_no a n (rw e), count_no b n (rw e))
    ]

-- a list without repeats, whose entries x are at most n and have n - x in the other, is not longer
reflected : (n : ℕ) (a b : List ℕ) → Once a → ((x : ℕ) → x ∈ a → x ≤ n) → ((x : ℕ) → x ∈ a → n - x ∈ b) → length a ≤ length b
reflected n a b once low over = pigeonhole (length a) (length b) (λ j. find b (n - get_or a j 0)) (λ j h. over (get_or a j 0) (get_d_in a j h)) (λ j k h l e.
    let x = get_or a j 0 in
    let y = get_or a k 0 in
    let same : n - x ≡ n - y = sym (get_d_find b (n - x) (over x (get_d_in a j h))) ∙ ap (λ (i : ℕ). get_or b i 0) e
    ∙ get_d_find b (n - y) (over y (get_d_in a k l)) in
    once_inj a once j k h l (omega (arith, low x (get_d_in a j h), low y (get_d_in a k l))))

module _ (n : ℕ) (big : 2 < n) where
  -- a unit is not 0, nor half of n
  not_zero : (u : ℕ) → Inverse n (pos u) → u ≡ 0 → ⊥
  not_zero u i e = not_one n (omega arith) (mult_as
      (ap (λ (x : ℕ). neg_ℤ (pos x *ℤ i.by -ℤ pos 1)) e ∙ ring (i.by ∷ []) (⊖ (con (pos 0) ⊙ var 0 ⊕ con (negsuc 0))) (con (pos 1)) tt) (mult_neg i.is))

  not_half : (u : ℕ) → Inverse n (pos u) → u + u ≡ n → ⊥
  not_half u i e =
      let m : Multiple n (pos 2 -ℤ pos 0) = mult_as
      (ap (λ (x : ℕ). i.by *ℤ pos x +ℤ negsuc 1 *ℤ (pos u *ℤ i.by -ℤ pos 1)) (sym e)
      ∙ ring (i.by ∷ pos u ∷ []) (var 0 ⊙ (var 1 ⊕ var 1) ⊕ con (negsuc 1) ⊙ (var 1 ⊙ var 0 ⊕ con (negsuc 0))) (con (pos 2)) tt)
      (mult-+ (mult-* i.by mult_self) (mult-* (negsuc 1) i.is)) in
      let z = residue_one n 2 0 big (omega arith) m in
      omega arith

  abbrev lower : ℕ → Bool
  lower u = is_unit n u && leb (u + u) n

  abbrev upper : ℕ → Bool
  upper u = is_unit n u && not (leb (u + u) n)

  -- n - u is a unit with u
  other : (u : ℕ) → u < n → Inverse n (pos u) → is_unit n (n - u) ≡ true
  other u h i =
      let e : n ≡ u + (n - u) = omega arith in
      inverse_unit n (n - u) (omega arith) (sign_inverse (pos u) (pos (n - u)) (inr (mult_as (ap pos e) mult_self)) i)

  lower_over : (u : ℕ) → u ∈ those lower n → n - u ∈ those upper n
  lower_over u h =
      let t = both_true (is_unit n u) (leb (u + u) n) (those_true lower n u h) in
      let low = those_low lower n u h in
      let half = leb-true (u + u) n t.1 in
      let i = unit_inverse n u t.0 in
      let ne : u ≢ 0 = not_zero u i in
      let nh : u + u ≢ n = not_half u i in
      those_in upper n (n - u) (omega arith) (rw (other u low i, lt-leb ((n - u) + (n - u)) n (omega arith)))

  upper_over : (u : ℕ) → u ∈ those upper n → n - u ∈ those lower n
  upper_over u h =
      let t = both_true (is_unit n u) (not (leb (u + u) n)) (those_true upper n u h) in
      let low = those_low upper n u h in
      let half = leb-false (u + u) n (not-true (leb (u + u) n) t.1) in
      let i = unit_inverse n u t.0 in
      those_in lower n (n - u) (omega arith) (rw (other u low i, le-leb ((n - u) + (n - u)) n (omega arith)))

  pub phi_half : phi n ≡ 2 * half_units n
  phi_half =
      let a = those lower n in
      let b = those upper n in
      let up = reflected n a b (those_once lower n) (λ x h. omega (arith, those_low lower n x h)) lower_over in
      let down = reflected n b a (those_once upper n) (λ x h. omega (arith, those_low upper n x h)) upper_over in
      omega (arith, count_split (is_unit n) (λ (u : ℕ). leb (u + u) n) n, length_those lower n, length_those upper n)

  pub index1_phi : index1 n ≡ phi n / 2 * index0 n
  index1_phi = let e : phi n / 2 ≡ half_units n = omega (arith, phi_half) in rw e
