-- Digits read one after the other, with a bound on the number.
--     digit-yes, digit_low, digit-high    which bytes are digits
--     onward-yes, onward-no               one more byte: a digit, or not
--     over_onward                         a number past the bound stays past it, whatever follows
--     push-none, push-some, push-within   one more byte: no number within the bound, or one
--     as_none, as_some                    the code's answer is Bad, or Is
--     digits-bad, digits_more, digits-end a turn of the loop over the digits, and its end
--     natural-onward, natural-empty       digits from the first on; no byte is no number
--     within_le                           a bounded number is within its bound
--     number-empty, number-plain          a number by its first byte: none, and no minus
--     minus-bad, minus_is, plain-bad, plain-is    the code's answer behind a minus, and without one
-- Assumes nothing.
use Rattle.std.specs.Prelude.{Some, None, Option}
use mathlib.Core.Path.{◌≡◌, refl, sym, ap, ◌∙◌}
use mathlib.Core.Bool.{Bool, true, false}
use mathlib.Core.List.{List, [], ◌∷◌}
use Prim.Native.Nat.{ℕ, suc, ◌+◌, ◌-◌, ◌*◌, ◌≤◌, ◌<◌}
use native.Mathlib.Omega.{arith}
use native.Mathlib.Numerals.{add-one}
use lib.Dec.{leb}
use lib.IntN.{ℤ, pos, neg_ℤ}
use lib.ListN.{length, get_or, drop, take}
use lib.Seq.{drop-cons, drop-length, take_all}
use borrow.Author.Tests.{le-leb, lt-leb, leb-true, leb-false, eq-eqb, ne_eqb}
use Rattle.text.specs.Number.{is_digit, onward, natural_from, within, mapped, integer_from}
use Rattle.text.specs.Inner.Inside.{digit_pushed}
use Rattle.text.proofs.Clash.{clash}

module _ (b : ℕ) where
  pub digit_yes : 48 ≤ b → b ≤ 57 → is_digit b ≡ true
  unfolding is_digit
  digit_yes l h = rw (le-leb 48 b l, le-leb b 57 h)

  pub digit_low : b < 48 → is_digit b ≡ false
  unfolding is_digit
  digit_low h = rw (lt-leb 48 b h)

  pub digit_high : 57 < b → is_digit b ≡ false
  unfolding is_digit
  digit_high h = rw (le-leb 48 b (omega arith), lt-leb b 57 h)

-- one byte more
module _ (m b : ℕ) (t : List ℕ) where
  pub onward_yes : is_digit b ≡ true → onward m (b ∷ t) ≡ onward (m * 10 + (b - 48)) t
  unfolding onward
  onward_yes e = rw (onward, e)

  pub onward_no : is_digit b ≡ false → onward m (b ∷ t) ≡ None
  unfolding onward
  onward_no e = rw (onward, e)

pub over_onward : (most : ℕ) (t : List ℕ) (m : ℕ) → most < m → within most (onward m t) ≡ None
unfolding within onward
over_onward most [] m h = rw (lt-leb m most h)
over_onward most (b ∷ t) m h = go (is_digit b) refl (over_onward most t (m * 10 + (b - 48)))
  where
    go : (x : Bool) → is_digit b ≡ x → (most < m * 10 + (b - 48) → within most (onward (m * 10 + (b - 48)) t) ≡ None)
        → within most (onward m (b ∷ t)) ≡ None
    go true e ih = rw (onward_yes m b t e) (ih (omega arith))
    go false e ih = rw (onward_no m b t e)

module _ (most m b : ℕ) where
  pub push_none : (t : List ℕ) → digit_pushed most m b ≡ None → within most (onward m (b ∷ t)) ≡ None
  unfolding within
  push_none t p = go (is_digit b) refl (leb (m * 10 + (b - 48)) most) refl
    where
      go : (x : Bool) → is_digit b ≡ x → (y : Bool) → leb (m * 10 + (b - 48)) most ≡ y → within most (onward m (b ∷ t)) ≡ None
      go false e y f = rw (onward_no m b t e)
      go true e false f = rw (onward_yes m b t e) (over_onward most t (m * 10 + (b - 48)) (leb-false (m * 10 + (b - 48)) most f))
      go true e true f = let q : Some (m * 10 + (b - 48)) ≡ None = rw (e, f) at p in clash (cc)

  pushed_is : (n : ℕ) → digit_pushed most m b ≡ Some n → (is_digit b ≡ true) × (m * 10 + (b - 48) ≡ n) × (n ≤ most)
  pushed_is n p = go (is_digit b) refl (leb (m * 10 + (b - 48)) most) refl
    where
      go : (x : Bool) → is_digit b ≡ x → (y : Bool) → leb (m * 10 + (b - 48)) most ≡ y → (is_digit b ≡ true) × (m * 10 + (b - 48) ≡ n) × (n ≤ most)
      go false e y f = let q : None ≡ Some n = rw e at p in clash (cc)
      go true e false f = let q : None ≡ Some n = rw (e, f) at p in clash (cc)
      go true e true f =
          let q : Some (m * 10 + (b - 48)) ≡ Some n = rw (e, f) at p in
          let same : m * 10 + (b - 48) ≡ n = cc in
          (e, same, omega (arith, leb-true (m * 10 + (b - 48)) most f))

  module _ (n : ℕ) (p : digit_pushed most m b ≡ Some n) where
    pub push_some : (t : List ℕ) → within most (onward m (b ∷ t)) ≡ within most (onward n t)
    push_some t = let q = pushed_is n p in ap (within most) (onward_yes m b t q.0 ∙ ap (λ (k : ℕ). onward k t) q.1)

    pub push_within : n ≤ most
    push_within = (pushed_is n p).2

pub as_none : (o : Option ℕ) → None ≡ o → o ≡ None
as_none o e = sym e

pub as_some : (o : Option ℕ) (n : ℕ) → Some n ≡ o → o ≡ Some n
as_some o n e = sym e

-- the loop over the digits, at index i of t, with the number m read so far
module _ (most m : ℕ) (t : List ℕ) (i : ℕ) (h : i < length t) where
  pub digits_bad : None ≡ (digit_pushed most m (get_or t i 0)) → within most (onward m (drop i t)) ≡ None
  digits_bad e = rw (drop-cons t i 0 h) (push_none most m (get_or t i 0) (drop (suc i) t) (as_none _ e))

  pub digits_more : (n : ℕ) → Some n ≡ (digit_pushed most m (get_or t i 0))
      → within most (onward m (drop i t)) ≡ within most (onward n (drop (i + 1) t))
  digits_more n e = rw (drop-cons t i 0 h, add-one) (push_some most m (get_or t i 0) n (as_some _ n e) (drop (suc i) t))

pub digits_end : (most m : ℕ) (t : List ℕ) → m ≤ most → within most (onward m (drop (length t) t)) ≡ Some m
unfolding within onward
digits_end most m t h = rw (drop-length, le-leb m most h)

pub natural_onward : (t : List ℕ) → 0 < length t → natural_from t ≡ onward 0 t
unfolding natural_from
natural_onward [] h = absurd (omega arith)
natural_onward (b ∷ t) h = refl

pub natural_empty : (most : ℕ) (t : List ℕ) → length t ≡ 0 → within most (natural_from t) ≡ None
unfolding natural_from within
natural_empty most [] h = refl
natural_empty most (b ∷ t) h = absurd (omega arith)

-- a bounded number is within its bound
pub within_le : (most : ℕ) (o : Option ℕ) (m : ℕ) → Some m ≡ (within most o) → m ≤ most
unfolding within
within_le most None m e = clash (cc)
within_le most (Some n) m e = go (leb n most) refl
  where
    go : (x : Bool) → leb n most ≡ x → m ≤ most
    go true f = let q : Some m ≡ Some n = rw f at e in let same : m ≡ n = cc in omega (arith, leb-true n most f)
    go false f = let q : Some m ≡ None = rw f at e in clash (cc)

-- a sign goes in front of a natural number, or of none
sign_bad : (f : ℕ → ℤ) (o : Option ℕ) → None ≡ o → None ≡ (mapped f o)
sign_bad f o e = rw (as_none o e)

sign_is : (f : ℕ → ℤ) (o : Option ℕ) (m : ℕ) → Some m ≡ o → Some (f m) ≡ (mapped f o)
sign_is f o m e = rw (as_some o m e)

pub number_empty : (t : List ℕ) → length t ≡ 0 → integer_from t ≡ None
unfolding integer_from
number_empty [] h = refl
number_empty (b ∷ t) h = absurd (omega arith)

-- what follows the first byte, as the code lends it
abbrev pub behind : List ℕ → List ℕ
behind t = take (length t - 1) (drop 1 t)

number_minus : (t : List ℕ) → 0 < length t → get_or t 0 0 ≡ 45
    → integer_from t ≡ mapped (λ n. neg_ℤ (pos n)) (within 9223372036854775808 (natural_from (behind t)))
unfolding integer_from
number_minus [] h e = absurd (omega arith)
number_minus (b ∷ t) h e = rw (eq-eqb b 45 e, take_all (length (b ∷ t) - 1) t (omega arith))

pub number_plain : (t : List ℕ) → 0 < length t → (get_or t 0 0 ≡ 45 → ⊥)
    → integer_from t ≡ mapped pos (within 9223372036854775807 (natural_from t))
unfolding integer_from
number_plain [] h e = absurd (omega arith)
number_plain (b ∷ t) h e = rw (ne_eqb b 45 e)

-- the two forms of a number, by its first byte
module _ (t : List ℕ) (h : 0 < length t) where
  pub minus_bad : get_or t 0 0 ≡ 45 → None ≡ (within 9223372036854775808 (natural_from (behind t))) → None ≡ (integer_from t)
  minus_bad e a = sign_bad (λ n. neg_ℤ (pos n)) (within 9223372036854775808 (natural_from (behind t))) a ∙ sym (number_minus t h e)

  pub minus_is : get_or t 0 0 ≡ 45 → (m : ℕ) → Some m ≡ (within 9223372036854775808 (natural_from (behind t)))
      → Some (neg_ℤ (pos m)) ≡ (integer_from t)
  minus_is e m a = sign_is (λ n. neg_ℤ (pos n)) (within 9223372036854775808 (natural_from (behind t))) m a ∙ sym (number_minus t h e)

  pub plain_bad : (get_or t 0 0 ≡ 45 → ⊥) → None ≡ (within 9223372036854775807 (natural_from t)) → None ≡ (integer_from t)
  plain_bad e a = sign_bad pos (within 9223372036854775807 (natural_from t)) a ∙ sym (number_plain t h e)

  pub plain_is : (get_or t 0 0 ≡ 45 → ⊥) → (m : ℕ) → Some m ≡ (within 9223372036854775807 (natural_from t))
      → Some (pos m) ≡ (integer_from t)
  plain_is e m a = sign_is pos (within 9223372036854775807 (natural_from t)) m a ∙ sym (number_plain t h e)
