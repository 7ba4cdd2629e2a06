-- Lists: what is in them, entries that all differ, and choosing by a decision.
--
-- In order: choosing (`choose`); being in a list (`In`) and in two lists put together; lists of numbers that differ (`Apart`), of which
-- at most n lie below n (`at_most`); deciding (`dec_in`).
-- Assumes nothing.
use mathlib.Core.Path.{◌≡◌, refl, sym, ◌∙◌, ap}
use mathlib.Core.Logic.{◌⊎◌, inl, inr}
use mathlib.Core.List.{List, [], ◌∷◌, ◌++◌}
use Prim.Native.Nat.{ℕ, zero, suc, ◌<◌, ◌≤◌}
use native.Mathlib.Omega.{arith}
use native.Mathlib.Decide.{ℕ_discrete}
use lib.ListN.{length, get_or}
use Rattle.numbering.proofs.Find.{pigeonhole}

-- ---- choosing

abbrev pub choose : {A X : Type 0} → Dec A → X → X → X
choose (yes a) x y = x
choose (no a) x y = y

module _ {A X : Type 0} where
  pub choose_yes : (d : Dec A) (x y : X) → A → choose d x y ≡ x
  choose_yes (yes a) x y h = refl
  choose_yes (no a) x y h = absurd (a h)

  pub choose_no : (d : Dec A) (x y : X) → ¬ A → choose d x y ≡ y
  choose_no (yes a) x y h = absurd (h a)
  choose_no (no a) x y h = refl

-- ---- being in a list

abbrev pub In : {A : Type 0} → A → List A → Type 0
In x [] = ⊥
In x (y ∷ l) = (x ≡ y) ⊎ In x l

pub in_left : {A : Type 0} (x : A) (l r : List A) → In x l → In x (l ++ r)
in_left x [] r h = absurd h
in_left x (y ∷ l) r (inl e) = inl e
in_left x (y ∷ l) r (inr h) = inr (in_left x l r h)

pub in_right : {A : Type 0} (x : A) (l r : List A) → In x r → In x (l ++ r)
in_right x [] r h = h
in_right x (y ∷ l) r h = inr (in_right x l r h)

pub in_either : {A : Type 0} (x : A) (l r : List A) → In x (l ++ r) → In x l ⊎ In x r
in_either x [] r h = inr h
in_either x (y ∷ l) r (inl e) = inl (inl e)
in_either x (y ∷ l) r (inr h) = elim (in_either x l r h) [ inl k ↦ inl (inr k) | inr k ↦ inr k ]

pub in_is : (x y : ℕ) (l : List ℕ) → x ≡ y → In x l → In y l
in_is x y l e h = rw e at h

pub in_get : (l : List ℕ) (j : ℕ) → j < length l → In (get_or l j 0) l
in_get [] j h = absurd (omega arith)
in_get (x ∷ l) zero h = inl refl
in_get (x ∷ l) (suc j) h = inr (in_get l j (omega arith))

-- ---- entries that all differ

abbrev pub Apart : List ℕ → Type 0
Apart [] = Unit {0}
Apart (x ∷ l) = ¬ (In x l) × Apart l

apart_one : (l : List ℕ) → Apart l → (j k : ℕ) → j < length l → k < length l → get_or l j 0 ≡ get_or l k 0 → j ≡ k
apart_one [] a j k h g e = absurd (omega arith)
apart_one (x ∷ l) a zero zero h g e = refl
apart_one (x ∷ l) a zero (suc k) h g e = absurd (a.0 (in_is _ _ l (sym e) (in_get l k (omega arith))))
apart_one (x ∷ l) a (suc j) zero h g e = absurd (a.0 (in_is _ _ l e (in_get l j (omega arith))))
apart_one (x ∷ l) a (suc j) (suc k) h g e = ap suc (apart_one l a.1 j k (omega arith) (omega arith) e)

-- at most n of them lie below n
pub at_most : (n : ℕ) (l : List ℕ) → Apart l → ((x : ℕ) → In x l → x < n) → length l ≤ n
at_most n l a low = pigeonhole (length l) n (λ j. get_or l j 0) (λ j h. low (get_or l j 0) (in_get l j h)) (apart_one l a)

-- ---- deciding

unfoldable pub dec_in : (x : ℕ) (l : List ℕ) → Dec (In x l)
dec_in x [] = no (λ h. h)
dec_in x (y ∷ l) = go (ℕ_discrete x y) (dec_in x l)
  where
    neither : ¬ (x ≡ y) → ¬ (In x l) → (x ≡ y) ⊎ In x l → ⊥
    neither e h (inl a) = e a
    neither e h (inr a) = h a

    go : Dec (x ≡ y) → Dec (In x l) → Dec (In x (y ∷ l))
    go (yes e) d = yes (inl e)
    go (no e) (yes h) = yes (inr h)
    go (no e) (no h) = no (neither e h)
