-- A TABLE COPIED ENTRY BY ENTRY, and what the code finds in it.
--
-- In order: one entry more is copied (`copied_more`, `copied_all`); equal bits are equal numbers (`bits_equal`); the search for a label's first and second
-- side is the definition's (`first_found`, `second_found`); the two labels written over the copy make the exchanged table (`put_both`).
-- Assumes nothing.
use Rattle.std.specs.Prelude.{Ok, Err}
use mathlib.Core.Path.{◌≡◌, refl, sym, ◌∙◌, ap}
use mathlib.Core.Logic.{inl, inr}
use mathlib.Core.Bool.{Bool, true, false, not, ◌&&◌}
use mathlib.Core.List.{List, [], ◌∷◌, ◌++◌, append_assoc}
use Prim.Native.Nat.{ℕ, zero, suc, ◌+◌, ◌*◌, ◌<◌, ◌≤◌}
use native.Mathlib.Omega.{arith}
use native.Mathlib.Numerals.{add-one}
use native.Mathlib.Decide.{dec_lt}
use lib.Dec.{eqb, leb, ltb}
use lib.Signed.{lt_z}
use borrow.Author.Tests.{eq-eqb, ne_eqb, lt-ltb, le-ltb, le-leb, lt-leb}
use lib.ListN.{length, take, drop, set, length-set, length-drop}
use lib.Seq.{take-suc, drop-cons, set_at, length-take-le, take_all, set-append_left}
use lib.IntN.{ℤ, pos}
use mir.Syntax.{w64}
use mir.Val.{SFits, to_z, of_z}
use mir.Facts.{to_z-of_z}
use Rattle.matrix.specs.Matrix.{nth}
use Rattle.basics.specs.Choice.{pick}
use Rattle.basics.specs.Count.{first}
use Rattle.basics.proofs.Choice.{either, clash}
use Rattle.call.specs.declared.refusal.Refusal.TheVariants.{NotFreeLabel}
use Rattle.symbol.specs.Table.{pairing_entries}
use Rattle.symbol.specs.Check.{eq_z}
use Rattle.symbol.specs.Symbol.{IsSymbol}
use Rattle.symbol.proofs.Choice.{eq_z_true, eq_eq_z}
use Rattle.symbol.proofs.Signed.{zero_below}
use Rattle.partner_exchange.specs.Exchange.{first_side_in, first_side, second_side, exchanged, is_free_label, check23}
use Rattle.partner_exchange.specs.Theorem.{TwoSides}
use Rattle.partner_exchange.specs.Inner.Ready.{label_test}
use Rattle.partner_exchange.proofs.Sides.{label_sides}

pub copied_more : (t out : List ℤ) (j : ℕ) (x : ℤ) → j < length t → j < length out → x ≡ nth t j
    → set (take j t ++ drop j out) j x ≡ take (j + 1) t ++ drop (j + 1) out
copied_more t out j x h k e =
    rw (add-one, take-suc t j (pos 0) h, drop-cons out j (pos 0) k, set_at (take j t) (nth out j) (drop (suc j) out) x j (length-take-le j t (omega arith)), e)
    (sym (append_assoc (take j t) (nth t j ∷ []) (drop (suc j) out)))

pub copied_all : (t out out' : List ℤ) (j : ℕ) → length t ≤ j → j ≤ length t → out' ≡ take j t ++ drop j out → out' ≡ t ++ drop (length t) out
copied_all t out out' j h k e = let z : j ≡ length t = omega arith in
    e ∙ ap (λ (n : ℕ). take n t ++ drop n out) z ∙ ap (λ (l : List ℤ). l ++ drop (length t) out) (take_all (length t) t (omega arith))

-- ---- what a side has

pub bits_equal : (x y : ℤ) → SFits w64 x → SFits w64 y → eqb (of_z w64 x) (of_z w64 y) ≡ eq_z x y
bits_equal x y f g = elim (either (eq_z x y)) [
  | inl e ↦ eq-eqb (of_z w64 x) (of_z w64 y) (ap (of_z w64) (eq_z_true x y e)) ∙ sym e
  | inr e ↦ ne_eqb (of_z w64 x) (of_z w64 y) (λ q. clash (eq_eq_z x y (sym (to_z-of_z f) ∙ ap (to_z w64) q ∙ to_z-of_z g)) e) ∙ sym e
]

module _ (p : List ℤ) (x : ℤ) (skip k : ℕ) where
  pub passed_over : k ≡ skip → false ≡ label_test p x skip k
  passed_over e = sym (ap (λ (b : Bool). not b && eq_z (nth p k) x) (eq-eqb k skip e))

  pub by_entry : (r : Bool) (m n : ℤ) → r ≡ eq_z m n → m ≡ nth p k → n ≡ x → (k ≡ skip → ⊥) → r ≡ label_test p x skip k
  by_entry r m n e f g h = e ∙ ap (λ (z : ℤ). eq_z z n) f ∙ ap (eq_z (nth p k)) g ∙ sym (ap (λ (b : Bool). not b && eq_z (nth p k) x) (ne_eqb k skip h))

-- ---- the sides of a label

first_same : (f g : ℕ → Bool) (n : ℕ) → ((i : ℕ) → i < n → f i ≡ g i) → first f n ≡ first g n
first_same f g zero h = refl
first_same f g (suc n) h =
    ap (λ (k : ℕ). pick (ltb k n) k (pick (f n) n (suc n))) (first_same f g n (λ i l. h i (omega arith)))
    ∙ ap (λ (b : Bool). pick (ltb (first g n) n) (first g n) (pick b n (suc n))) (h n (omega arith))

module _ (v : ℕ) (p : List ℤ) (x : ℤ) where
  -- no side is passed over where the one named is past the last
  pub first_found : first (label_test p x (v + 1)) (v + 1) ≡ first_side_in v p x
  first_found = first_same (label_test p x (v + 1)) (λ k. eq_z (nth p k) x) (v + 1)
      (λ i l. ap (λ (b : Bool). not b && eq_z (nth p i) x) (ne_eqb i (v + 1) (λ e. omega arith)))

  up_to : (k : ℕ) → leb k v ≡ ltb k (v + 1)
  up_to k = elim (dec_lt k (v + 1)) [
    | yes h ↦ le-leb k v (omega arith) ∙ sym (lt-ltb k (v + 1) h)
    | no h ↦ lt-leb k v (omega arith) ∙ sym (le-ltb k (v + 1) (omega arith))
  ]

  pub free_found : (k : ℕ) → k ≡ first (label_test p x (v + 1)) (v + 1) → lt_z (pos 0) x ≡ true → leb k v ≡ is_free_label v p x
  free_found k e h =
      up_to k ∙ ap (λ (i : ℕ). ltb i (v + 1)) (e ∙ first_found) ∙ sym (ap (λ (b : Bool). b && ltb (first_side_in v p x) (v + 1)) (sym (zero_below x) ∙ h))

  pub not_positive : lt_z (pos 0) x ≡ false → false ≡ is_free_label v p x
  not_positive h = sym (ap (λ (b : Bool). b && ltb (first_side_in v p x) (v + 1)) (sym (zero_below x) ∙ h))

-- check 23, by what was found
module _ (v : ℕ) (p : List ℤ) (x y : ℤ) where
  pub first_not : is_free_label v p x ≡ false → Err (NotFreeLabel 0) ≡ check23 v p x y
  first_not e = rw e

  pub second_not : is_free_label v p x ≡ true → is_free_label v p y ≡ false → Err (NotFreeLabel 1) ≡ check23 v p x y
  second_not e f = rw (e, f)

  pub repeated : is_free_label v p x ≡ true → is_free_label v p y ≡ true → eq_z x y ≡ true → Err (NotFreeLabel 1) ≡ check23 v p x y
  repeated e f g = rw (e, f, g)

  pub both_free : is_free_label v p x ≡ true → is_free_label v p y ≡ true → eq_z x y ≡ false → Ok tt ≡ check23 v p x y
  both_free e f g = rw (e, f, g)

module _ (v : ℕ) (t p : List ℤ) (x : ℤ) (ok : IsSymbol v t) (is : p ≡ pairing_entries v t) where
  pub sides_there : v + 1 ≤ length p
  sides_there = omega (arith, ap length is ∙ length-drop (2 * v) t, ok.long)

  module _ (free : is_free_label v p x ≡ true) where
    two : TwoSides v t x (first_side v t x) (second_side v t x)
    two = (label_sides v t x ok (ap (λ (q : List ℤ). is_free_label v q x) (sym is) ∙ free)).1

    pub second_found : (a b : ℕ) → a ≡ first (label_test p x (v + 1)) (v + 1) → b ≡ first (label_test p x a) (v + 1) → (b ≡ second_side v t x) × (b ≤ v)
    second_found a b e f =
        let at : a ≡ first_side v t x = e ∙ first_found v p x ∙ ap (λ (q : List ℤ). first_side_in v q x) is in
        let eq : b ≡ second_side v t x =
        f ∙ ap (λ (q : List ℤ). first (label_test q x a) (v + 1)) is
        ∙ ap (λ (k : ℕ). first (label_test (pairing_entries v t) x k) (v + 1)) at
        ∙ ap (λ (z : ℤ). first (label_test (pairing_entries v t) z (first_side v t x)) (v + 1)) (sym two.first) in
        (eq, omega (arith, eq, two.within))

-- ---- the two labels over the copy

pub put_both : (v : ℕ) (t out c : List ℤ) (b d : ℕ) (x y x' y' : ℤ) → length t ≡ 3 * v + 1 → b ≤ v → d ≤ v → b ≡ second_side v t x → d ≡ second_side v t y
    → c ≡ t ++ drop (length t) out → x' ≡ x → y' ≡ y → set (set c (2 * v + b) y') (2 * v + d) x' ≡ exchanged v t x y ++ drop (3 * v + 1) out
unfolding exchanged
put_both v t out c b d x y x' y' long lb ld eb ed ec ex ey =
    let rest = drop (length t) out in
    let B = 2 * v + b in
    let D = 2 * v + d in
    ap (λ (l : List ℤ). set (set l B y') D x') ec
    ∙ ap (λ (z : ℤ). set (set (t ++ rest) B z) D x') ey
    ∙ ap (λ (z : ℤ). set (set (t ++ rest) B y) D z) ex
    ∙ ap (λ (l : List ℤ). set l D x) (set-append_left t rest B y (omega arith))
    ∙ set-append_left (set t B y) rest D x (omega (arith, length-set t B y))
    ∙ ap (λ (n : ℕ). set (set t B y) D x ++ drop n out) long
    ∙ ap (λ (i : ℕ). set (set t (2 * v + i) y) D x ++ drop (3 * v + 1) out) eb
    ∙ ap (λ (i : ℕ). set (set t (2 * v + second_side v t x) y) (2 * v + i) x ++ drop (3 * v + 1) out) ed
