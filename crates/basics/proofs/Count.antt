-- Laws of searching, counting and listing below n.
--
-- In order: tests that fail below n (`Clear`); the first that passes (`first_clear`, `first_hit`, `clear_first`, `found`); counts
-- (`count_none`, `count_eq`, `count_le`, `count_without`) and what a count of 1 or 2 says (`only`, `another`); lists of those that pass
-- (`length_those`, `those_at`).
-- Assumes nothing.
use mathlib.Core.Path.{◌≡◌, refl, sym, ◌∙◌, ap}
use mathlib.Core.Logic.{◌⊎◌, inl, inr}
use mathlib.Core.Bool.{Bool, true, false, not, ◌&&◌}
use mathlib.Core.List.{List, [], ◌∷◌, ◌++◌}
use Prim.Native.Nat.{ℕ, zero, suc, ◌+◌, ◌<◌, ◌≤◌}
use native.Mathlib.Omega.{arith}
use native.Mathlib.Decide.{dec_lt}
use lib.Dec.{ltb, eqb}
use lib.ListN.{length, get_or, length-append, get_or-append}
use lib.Seq.{get_or-append-add}
use borrow.Author.Tests.{lt-ltb, le-ltb, eq-eqb, ne_eqb}
use Rattle.basics.specs.Choice.{pick}
use Rattle.basics.specs.Count.{first, count, those}
use Rattle.basics.proofs.Choice.{pick_true, pick_false, either, clash}

-- no i < n passes
pub record Clear (test : ℕ → Bool) (n : ℕ) : Type 0 where
  pub none : (i : ℕ) → i < n → test i ≡ false

module _ (test : ℕ → Bool) where
  pub clear_zero : Clear test 0
  clear_zero = record { none = λ i h. absurd (omega arith) }

  pub clear_more : (n : ℕ) → Clear test n → test n ≡ false → Clear test (suc n)
  clear_more n c e = record { none = λ i h. elim (dec_lt i n) [ yes l ↦ c.none i l | no l ↦ let z : i ≡ n = omega arith in ap test z ∙ e ] }

  pub clear_less : (m n : ℕ) → m ≤ n → Clear test n → Clear test m
  clear_less m n h c = record { none = λ i l. c.none i (omega arith) }

  -- ---- the first that passes

  first_step : (n : ℕ) (b : Bool) → test n ≡ b → first test (suc n) ≡ pick (ltb (first test n) n) (first test n) (pick b n (suc n))
  first_step n b e = ap (λ (z : Bool). pick (ltb (first test n) n) (first test n) (pick z n (suc n))) e

  pub first_clear : (n : ℕ) → Clear test n → first test n ≡ n
  first_clear zero c = refl
  first_clear (suc n) c =
      let k = first_clear n (clear_less n (suc n) (omega arith) c) in
      first_step n false (c.none n (omega arith)) ∙ pick_false (ltb (first test n) n) _ _ (le-ltb (first test n) n (omega arith))

  pub first_hit : (k n : ℕ) → k < n → Clear test k → test k ≡ true → first test n ≡ k
  first_hit k zero h c e = absurd (omega arith)
  first_hit k (suc n) h c e = elim (dec_lt k n) [
    | yes l ↦ let m = first_hit k n l c e in pick_true (ltb (first test n) n) _ _ (lt-ltb (first test n) n (omega arith)) ∙ m
    | no l ↦ let z : k ≡ n = omega arith in
        let m = first_clear n (rw z at c) in
        first_step n true (rw z at e) ∙ pick_false (ltb (first test n) n) _ _ (le-ltb (first test n) n (omega arith)) ∙ sym z
  ]

  -- either none passes, or the first one does
  pub record Found (n : ℕ) : Type 0 where
    pub below : first test n < n
    pub passes : test (first test n) ≡ true
    pub clear : Clear test (first test n)

  pub search_first : (n : ℕ) → Clear test n ⊎ Found n
  search_first zero = inl clear_zero
  search_first (suc n) = go (search_first n) (either (test n))
    where
      at : (k : ℕ) → k < suc n → Clear test k → test k ≡ true → Found (suc n)
      at k h c e =
          let z = first_hit k (suc n) h c e in
          record { below = omega arith; passes = ap test z ∙ e; clear = rw z c }

      go : Clear test n ⊎ Found n → (test n ≡ true) ⊎ (test n ≡ false) → Clear test (suc n) ⊎ Found (suc n)
      go (inl c) (inl e) = inr (at n (omega arith) c e)
      go (inl c) (inr e) = inl (clear_more n c e)
      go (inr f) e = inr (at (first test n) (let h = f.below in omega arith) f.clear f.passes)

  pub clear_first : (n : ℕ) → first test n ≡ n → Clear test n
  clear_first n e = go (search_first n)
    where
      go : Clear test n ⊎ Found n → Clear test n
      go (inl c) = c
      go (inr f) = let h = f.below in absurd (omega arith)

  pub found : (n : ℕ) → first test n < n → Found n
  found n h = go (search_first n)
    where
      go : Clear test n ⊎ Found n → Found n
      go (inl c) = let e = first_clear n c in absurd (omega arith)
      go (inr f) = f

  pub first_le : (n : ℕ) → first test n ≤ n
  first_le n = go (search_first n)
    where
      go : Clear test n ⊎ Found n → first test n ≤ n
      go (inl c) = let e = first_clear n c in omega arith
      go (inr f) = let h = f.below in omega arith

  -- ---- counts

  pub count_yes : (n : ℕ) → test n ≡ true → count test (suc n) ≡ count test n + 1
  count_yes n e = ap (λ (b : Bool). count test n + pick b 1 0) e

  pub count_no : (n : ℕ) → test n ≡ false → count test (suc n) ≡ count test n
  count_no n e = ap (λ (b : Bool). count test n + pick b 1 0) e ∙ omega arith

  pub count_none : (n : ℕ) → Clear test n → count test n ≡ 0
  count_none zero c = refl
  count_none (suc n) c = count_no n (c.none n (omega arith)) ∙ count_none n (clear_less n (suc n) (omega arith) c)

  pub none_count : (n : ℕ) → count test n ≡ 0 → Clear test n
  none_count zero e = clear_zero
  none_count (suc n) e = go (either (test n)) (none_count n)
    where
      go : (test n ≡ true) ⊎ (test n ≡ false) → (count test n ≡ 0 → Clear test n) → Clear test (suc n)
      go (inl t) c = let h = count_yes n t in absurd (omega arith)
      go (inr f) c = clear_more n (c (sym (count_no n f) ∙ e)) f

  pub count_mono : (m n : ℕ) → m ≤ n → count test m ≤ count test n
  count_mono m zero h = let z : m ≡ 0 = omega arith in rw z (omega arith)
  count_mono m (suc n) h = elim (dec_lt n m) [
    | yes l ↦ let z : m ≡ suc n = omega arith in rw z (omega arith)
    | no l ↦ let k = count_mono m n (omega arith) in omega arith
  ]

  pub count_le : (n : ℕ) → count test n ≤ n
  count_le zero = omega arith
  count_le (suc n) = let h = count_le n in let k = one_at (test n) in omega arith
    where
      one_at : (b : Bool) → pick b 1 0 ≤ 1
      one_at true = omega arith
      one_at false = omega arith

  -- one that passes is counted
  pub count_some : (i n : ℕ) → i < n → test i ≡ true → 1 ≤ count test n
  count_some i n h e = let a = count_yes i e in let b = count_mono (suc i) n (omega arith) in omega arith

abbrev one_if : Bool → ℕ
one_if b = pick b 1 0

-- counts of tests that agree below n
pub count_eq : (f g : ℕ → Bool) (n : ℕ) → ((i : ℕ) → i < n → f i ≡ g i) → count f n ≡ count g n
count_eq f g zero h = refl
count_eq f g (suc n) h =
    let a = count_eq f g n (λ i l. h i (omega arith)) in
    let b = ap (λ (z : Bool). one_if z) (h n (omega arith)) in
    omega arith

-- ---- one left out

abbrev pub without : ℕ → (ℕ → Bool) → ℕ → Bool
without i test k = not (eqb k i) && test k

module _ (i : ℕ) (test : ℕ → Bool) where
  pub without_at : without i test i ≡ false
  without_at = ap (λ (b : Bool). not b && test i) (eq-eqb i i refl)

  pub without_other : (k : ℕ) → ¬ (k ≡ i) → without i test k ≡ test k
  without_other k h = ap (λ (b : Bool). not b && test k) (ne_eqb k i h)

  pub count_without : (n : ℕ) → i < n → test i ≡ true → count test n ≡ count (without i test) n + 1
  count_without zero h e = absurd (omega arith)
  count_without (suc n) h e = elim (dec_lt i n) [
    | yes l ↦ let a = count_without n l e in
        let b = ap (λ (z : Bool). one_if z) (without_other n (λ z. omega arith)) in
        omega arith
    | no l ↦ let z : i ≡ n = omega arith in
        let a : count (without i test) n ≡ count test n = count_eq (without i test) test n (λ j m. without_other j (λ y. omega arith)) in
        let b : test n ≡ true = rw z at e in
        let c : without i test n ≡ false = ap (without i test) (sym z) ∙ without_at in
        count_yes test n b ∙ ap (λ (x : ℕ). x + 1) (sym a ∙ sym (count_no (without i test) n c))
  ]

-- where exactly one passes, it is the first
pub only : (test : ℕ → Bool) (n : ℕ) → count test n ≡ 1 → (j : ℕ) → j < n → test j ≡ true → j ≡ first test n
only test n e j h t =
    let a = count_without j test n h t in
    let c = none_count (without j test) n (omega arith) in
    sym (first_hit test j n h (record { none = λ k l. sym (without_other j test k (λ z. omega arith)) ∙ c.none k (omega arith) }) t)

-- where exactly two pass, each has another, and these are all
pub record Another (test : ℕ → Bool) (n i : ℕ) : Type 0 where
  pub below : first (without i test) n < n
  pub differs : ¬ (first (without i test) n ≡ i)
  pub passes : test (first (without i test) n) ≡ true
  pub others : (j : ℕ) → j < n → test j ≡ true → ¬ (j ≡ i) → j ≡ first (without i test) n

pub another : (test : ℕ → Bool) (n i : ℕ) → count test n ≡ 2 → i < n → test i ≡ true → Another test n i
another test n i e h t = go (search_first (without i test) n)
  where
    one : count (without i test) n ≡ 1
    one = let a = count_without i test n h t in omega arith

    go : Clear (without i test) n ⊎ Found (without i test) n → Another test n i
    go (inl c) = let z = count_none (without i test) n c in absurd (omega (arith, one))
    go (inr f) =
        let k = first (without i test) n in
        let ne : ¬ (k ≡ i) = λ z. clash f.passes (ap (without i test) z ∙ without_at i test) in
        record {
          below = f.below;
          differs = ne;
          passes = sym (without_other i test k ne) ∙ f.passes;
          others = λ j l p d. only (without i test) n one j l (without_other i test j d ∙ p);
        }

-- ---- lists of those that pass

pub length_those : (test : ℕ → Bool) (n : ℕ) → length (those test n) ≡ count test n
length_those test zero = refl
length_those test (suc n) = length-append (those test n) (pick (test n) (n ∷ []) []) ∙ go (test n) (length_those test n)
  where
    go : (b : Bool) → length (those test n) ≡ count test n → length (those test n) + length (pick b (n ∷ []) []) ≡ count test n + pick b 1 0
    go true e = ap (λ (k : ℕ). k + 1) e
    go false e = ap (λ (k : ℕ). k + 0) e

-- one that passes stands where as many pass before it
pub those_at : (test : ℕ → Bool) (i n d : ℕ) → i < n → test i ≡ true → get_or (those test n) (count test i) d ≡ i
those_at test i zero d h e = absurd (omega arith)
those_at test i (suc n) d h e = elim (dec_lt i n) [
  | yes l ↦ let a = count_yes test i e in
      let b = count_mono test (suc i) n (omega arith) in
      get_or-append (those test n) (pick (test n) (n ∷ []) []) d (count test i) (omega (arith, length_those test n)) ∙ those_at test i n d l e
  | no l ↦ let z : i ≡ n = omega arith in
      let p : those test (suc n) ≡ those test n ++ (n ∷ []) = ap (λ (b : Bool). those test n ++ pick b (n ∷ []) []) (ap test (sym z) ∙ e) in
      let q : count test i ≡ length (those test n) + 0 = ap (count test) z ∙ sym (length_those test n) ∙ omega arith in
      ap (λ (x : List ℕ). get_or x (count test i) d) p ∙ ap (λ (k : ℕ). get_or (those test n ++ (n ∷ [])) k d) q ∙ get_or-append-add (those test n) (n ∷ []) 0 d
      ∙ sym z
]
