-- The smaller of two numbers (`least_is`, `least_turn`); those numbers that pass a test (`those_pass`), and when there are just two (`count_two`).
-- Assumes nothing.
use mathlib.Core.Path.{◌≡◌, sym, ◌∙◌, ap}
use mathlib.Core.Logic.{◌⊎◌, inl, inr}
use mathlib.Core.Bool.{Bool, true, false}
use mathlib.Core.List.{List, [], ◌∷◌, ◌++◌}
use Prim.Native.Nat.{ℕ, zero, suc, ◌+◌, ◌-◌, ◌<◌}
use native.Mathlib.Omega.{arith}
use native.Mathlib.Decide.{ℕ_discrete, dec_lt}
use lib.Dec.{ltb}
use lib.ListN.{length, get_or, length-append, get_or-append}
use lib.Seq.{get_or-append-add}
use borrow.Author.Tests.{lt-ltb, le-ltb}
use Rattle.basics.specs.Choice.{pick}
use Rattle.basics.specs.Count.{count, those}
use Rattle.basics.proofs.Choice.{pick_true, pick_false, either}
use Rattle.basics.proofs.Count.{without, without_at, without_other, count_without, count_none}
use Rattle.import_rule.specs.Rule.{least}

-- ---- the smaller of two

pub least_is : (x y : ℕ) → (least x y ≡ x) ⊎ (least x y ≡ y)
least_is x y = elim (either (ltb x y)) [ inl e ↦ inl (pick_true (ltb x y) x y e) | inr e ↦ inr (pick_false (ltb x y) x y e) ]

pub least_turn : (x y : ℕ) → least x y ≡ least y x
least_turn x y = elim (dec_lt x y) [
  | yes h ↦ pick_true (ltb x y) x y (lt-ltb x y h) ∙ sym (pick_false (ltb y x) y x (le-ltb y x (omega arith)))
  | no h ↦ pick_false (ltb x y) x y (le-ltb x y (omega arith)) ∙ elim (dec_lt y x) [
    | yes k ↦ sym (pick_true (ltb y x) y x (lt-ltb y x k))
    | no k ↦ let e : y ≡ x = omega arith in sym (pick_false (ltb y x) y x (le-ltb y x (omega arith)) ∙ sym e)
  ]
]

-- ---- those that pass a test

pub record Passing (test : ℕ → Bool) (n j : ℕ) : Type 0 where
  pub low : get_or (those test n) j 0 < n
  pub passes : test (get_or (those test n) j 0) ≡ true

pub those_pass : (test : ℕ → Bool) (n j : ℕ) → j < length (those test n) → Passing test n j
those_pass test zero j h = absurd (omega arith)
those_pass test (suc n) j h = elim (dec_lt j (length (those test n))) [
  | yes k ↦
      (let p = those_pass test n j k in
      let e = get_or-append (those test n) (pick (test n) (n ∷ []) []) 0 j k in
      let low = p.low in
      record { low = rw e (omega arith); passes = rw e p.passes })
  | no k ↦ last (either (test n)) k
]
  where
    last : (test n ≡ true) ⊎ (test n ≡ false) → ¬ (j < length (those test n)) → Passing test (suc n) j
    last (inl t) k =
        let p : those test (suc n) ≡ those test n ++ (n ∷ []) = ap (λ (b : Bool). those test n ++ pick b (n ∷ []) []) t in
        let z : j ≡ length (those test n) + 0 = omega (arith, ap length p, length-append (those test n) (n ∷ [])) in
        let e : get_or (those test (suc n)) j 0 ≡ n = ap (λ (x : List ℕ). get_or x j 0) p ∙ ap (λ (i : ℕ). get_or (those test n ++ (n ∷ [])) i 0) z
        ∙ get_or-append-add (those test n) (n ∷ []) 0 0 in
        record { low = rw e (omega arith); passes = rw e t }
    last (inr f) k =
        let p : those test (suc n) ≡ those test n ++ [] = ap (λ (b : Bool). those test n ++ pick b (n ∷ []) []) f in
        absurd (omega (arith, ap length p, length-append (those test n) []))

-- exactly two pass
pub count_two : (test : ℕ → Bool) (n i k : ℕ) → i < n → k < n → ¬ (k ≡ i) → test i ≡ true → test k ≡ true
    → ((j : ℕ) → j < n → test j ≡ true → (j ≡ i) ⊎ (j ≡ k))
    → count test n ≡ 2
count_two test n i k a b d p q only =
    let one = count_without i test n a p in
    let two = count_without k (without i test) n b (without_other i test k d ∙ q) in
    let none = count_none (without k (without i test)) n (record { none = λ j h. clear j h (ℕ_discrete j k) (ℕ_discrete j i) (either (test j)) }) in
    omega arith
  where
    clear : (j : ℕ) → j < n → Dec (j ≡ k) → Dec (j ≡ i) → (test j ≡ true) ⊎ (test j ≡ false) → without k (without i test) j ≡ false
    clear j h (yes e) f t = ap (without k (without i test)) e ∙ without_at k (without i test)
    clear j h (no e) (yes f) t = without_other k (without i test) j e ∙ ap (without i test) f ∙ without_at i test
    clear j h (no e) (no f) (inl t) = elim (only j h t) [ inl z ↦ absurd (f z) | inr z ↦ absurd (e z) ]
    clear j h (no e) (no f) (inr t) = without_other k (without i test) j e ∙ without_other i test j f ∙ t
