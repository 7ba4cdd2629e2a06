-- Laws of `those`: one number more, how many there are, and which; and that as many numbers pass one test as another where maps lead there and back
-- (`those_matched`).
-- Assumes nothing.
use mathlib.Core.Path.{◌≡◌, sym, ◌∙◌, ap}
use mathlib.Core.Logic.{inl, inr}
use mathlib.Core.Bool.{Bool, true, false}
use mathlib.Core.List.{[], ◌∷◌, ◌++◌, append-nil}
use Prim.Native.Nat.{ℕ, zero, suc, ◌+◌, ◌≤◌, ◌<◌}
use native.Mathlib.Omega.{arith}
use native.Mathlib.Decide.{dec_lt, ℕ_discrete}
use native.Mathlib.Nat.{le_antisymm}
use lib.ListN.{length, get_or, length-append}
use Rattle.numbering.specs.Find.{find, ◌∈◌, ◌∉◌, Once}
use Rattle.basics.specs.Count.{those}
use Rattle.numbering.proofs.Find.{none_below_lem, test, get_d_in, get_d_find, in_left, in_last, all_last, once_none, once_last, once_inj, pigeonhole}

module _ (p : ℕ → Bool) where
  pub those_yes : (i : ℕ) → p i ≡ true → those p (suc i) ≡ those p i ++ (i ∷ [])
  those_yes i e = rw e

  pub those_no : (i : ℕ) → p i ≡ false → those p (suc i) ≡ those p i
  those_no i e = rw e (append-nil (those p i))

  pub those_low : (i x : ℕ) → x ∈ those p i → x < i
  those_low zero x h = none_below_lem h
  those_low (suc i) x h = elim (test (p i)) [
    | inl e ↦ all_last (λ (y : ℕ). y < suc i) (those p i) i (λ y k. omega (arith, those_low i y k)) (omega arith) x (rw (those_yes i e) at h)
    | inr e ↦ omega (arith, those_low i x (rw (those_no i e) at h))
  ]

  not_yet : (i : ℕ) → i ∉ those p i
  not_yet i = elim (dec_lt (find (those p i) i) (length (those p i))) [
    | yes h ↦ let no : ⊥ = omega (arith, those_low i i h) in absurd no
    | no h ↦ omega arith
  ]

  pub those_le : (i k : ℕ) → length (those p i) ≤ length (those p (i + k))
  those_le i zero = let e : i + 0 ≡ i = omega arith in rw e (omega arith)
  those_le i (suc k) =
      let e : i + suc k ≡ suc (i + k) = omega arith in
      let g = those_le i k in
      elim (test (p (i + k))) [
        | inl q ↦ rw (e, those_yes (i + k) q) (omega (arith, length-append (those p (i + k)) ((i + k) ∷ [])))
        | inr q ↦ rw (e, those_no (i + k) q) g
      ]

  -- at most i of the numbers below i
  pub those_few : (i : ℕ) → length (those p i) ≤ i
  those_few zero = omega arith
  those_few (suc i) = let g = those_few i in elim (test (p i)) [
    | inl q ↦ rw (those_yes i q) (omega (arith, length-append (those p i) (i ∷ [])))
    | inr q ↦ rw (those_no i q) (omega arith)
  ]

  -- what is selected: each number below i that passes, once
  pub those_once : (i : ℕ) → Once (those p i)
  those_once zero = once_none
  those_once (suc i) = elim (test (p i)) [
    | inl q ↦ rw (those_yes i q) (once_last (those p i) i (those_once i) (not_yet i))
    | inr q ↦ rw (those_no i q) (those_once i)
  ]

  pub those_true : (i x : ℕ) → x ∈ those p i → p x ≡ true
  those_true zero x h = none_below_lem h
  those_true (suc i) x h = elim (test (p i)) [
    | inl q ↦ all_last (λ (y : ℕ). p y ≡ true) (those p i) i (those_true i) q x (rw (those_yes i q) at h)
    | inr q ↦ those_true i x (rw (those_no i q) at h)
  ]

  pub those_in : (i x : ℕ) → x < i → p x ≡ true → x ∈ those p i
  those_in zero x h e = none_below_lem h
  those_in (suc i) x h e = elim (ℕ_discrete x i) [
    | yes d ↦ rw (d, those_yes i (rw d at e)) (in_last (those p i) i)
    | no d ↦
        let k = those_in i x (omega arith) e in
        elim (test (p i)) [
          | inl q ↦ rw (those_yes i q) (in_left (those p i) (i ∷ []) x k)
          | inr q ↦ rw (those_no i q) k
        ]
  ]

-- ---- as many numbers pass one test as another

-- y passes q and lies below m, and g leads from it back to x
pub record Matched (q : ℕ → Bool) (m : ℕ) (g : ℕ → ℕ) (x y : ℕ) : Type 0 where
  pub low : y < m
  pub passes : q y ≡ true
  pub back : g y ≡ x

module _ (p q : ℕ → Bool) (n m : ℕ) (f g : ℕ → ℕ) (to : (x : ℕ) → x < n → p x ≡ true → Matched q m g x (f x)) where
  abbrev there : ℕ → ℕ
  there j = f (get_or (those p n) j 0)

  entry_matched : (j : ℕ) → j < length (those p n) → Matched q m g (get_or (those p n) j 0) (there j)
  entry_matched j h =
      let x = get_or (those p n) j 0 in
      let i = get_d_in (those p n) j h in
      to x (those_low p n x i) (those_true p n x i)

  there_in : (j : ℕ) → j < length (those p n) → there j ∈ those q m
  there_in j h = let k = entry_matched j h in those_in q m (there j) k.low k.passes

  those_into : length (those p n) ≤ length (those q m)
  those_into = pigeonhole (length (those p n)) (length (those q m)) (λ (j : ℕ). find (those q m) (there j)) there_in
      (λ j k h h' e.
      let same : there j ≡ there k =
      sym (get_d_find (those q m) (there j) (there_in j h)) ∙ ap (λ (i : ℕ). get_or (those q m) i 0) e ∙ get_d_find (those q m) (there k) (there_in k h') in
      once_inj (those p n) (those_once p n) j k h h' (sym (entry_matched j h).back ∙ ap g same ∙ (entry_matched k h').back))

pub those_matched : (p q : ℕ → Bool) (n m : ℕ) (f g : ℕ → ℕ) → ((x : ℕ) → x < n → p x ≡ true → Matched q m g x (f x))
    → ((y : ℕ) → y < m → q y ≡ true → Matched p n f y (g y)) → length (those p n) ≡ length (those q m)
those_matched p q n m f g to from = le_antisymm (those_into p q n m f g to) (those_into q p m n g f from)
