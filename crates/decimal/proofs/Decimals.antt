-- The decimal form of a number.
--     onto-last, onto-more    a number below 10 is one digit; another is the digits of its tenth and its last digit
--     onto_any                the fuel does not matter, so long as it is at least the number
--     digits_last, digits_more  the same of the digits in front of a list
--     digits_most             a number below 10^k has at most k digits
--     decimal_most            with a sign, at most k + 1 bytes
--     integer_most            a number of 64 signed bits takes 20 bytes at most
--     form-minus, form-plain  the decimal form by the test that the code makes on the sign
-- Assumes nothing.
use mathlib.Core.Path.{◌≡◌, refl, sym, ◌∙◌}
use mathlib.Core.Bool.{true, false}
use mathlib.Core.List.{List, [], ◌∷◌}
use Prim.Native.Nat.{ℕ, zero, suc, ◌+◌, ◌-◌, ◌/◌, ◌%◌, ◌≤◌, ◌<◌, ◌^◌}
use native.Mathlib.Decide.{dec_lt}
use native.Mathlib.Omega.{arith}
use lib.IntN.{ℤ, pos, negsuc, nat_abs}
use lib.Signed.{lt_z}
use lib.ListN.{length}
use mir.Syntax.{w64}
use mir.Val.{SFits, to_z, of_z}
use mir.Facts.{to_z-of_z}
use borrow.Author.Tests.{lt-ltb, le-ltb, ltb-true}
use Rattle.decimal.specs.Decimal.{digits_onto, digits, decimal_of}
use Rattle.decimal.proofs.Places.{tenth}
use Rattle.decimal.proofs.Signs.{abs_most}

-- the last digit
abbrev pub last : ℕ → ℕ
last n = 48 + n % 10

pub onto_last : (fuel n : ℕ) (t : List ℕ) → n < 10 → digits_onto fuel n t ≡ last n ∷ t
unfolding digits_onto
onto_last zero n t h = refl
onto_last (suc fuel) n t h = rw (digits_onto, lt-ltb n 10 h)

pub onto_more : (fuel n : ℕ) (t : List ℕ) → 10 ≤ n → digits_onto (suc fuel) n t ≡ digits_onto fuel (n / 10) (last n ∷ t)
unfolding digits_onto
onto_more fuel n t h = rw (digits_onto, le-ltb n 10 h)

onto_any : (f g n : ℕ) (t : List ℕ) → n ≤ f → n ≤ g → digits_onto f n t ≡ digits_onto g n t
onto_any zero g n t a b = onto_last zero n t (omega arith) ∙ sym (onto_last g n t (omega arith))
onto_any (suc f) zero n t a b = onto_last (suc f) n t (omega arith) ∙ sym (onto_last zero n t (omega arith))
onto_any (suc f) (suc g) n t a b = go (dec_lt n 10) (onto_any f g (n / 10) (last n ∷ t))
  where
    go : Dec (n < 10) → (n / 10 ≤ f → n / 10 ≤ g → digits_onto f (n / 10) (last n ∷ t) ≡ digits_onto g (n / 10) (last n ∷ t))
        → digits_onto (suc f) n t ≡ digits_onto (suc g) n t
    go (yes h) ih = onto_last (suc f) n t h ∙ sym (onto_last (suc g) n t h)
    go (no h) ih = onto_more f n t (omega arith) ∙ ih (omega arith) (omega arith) ∙ sym (onto_more g n t (omega arith))

-- the digits of n in front of t
abbrev pub in_front : ℕ → List ℕ → List ℕ
in_front n t = digits_onto n n t

pub digits_last : (n : ℕ) (t : List ℕ) → n < 10 → in_front n t ≡ last n ∷ t
digits_last n t h = onto_last n n t h

pub digits_more : (n : ℕ) (t : List ℕ) → 10 ≤ n → in_front n t ≡ in_front (n / 10) (last n ∷ t)
digits_more zero t h = absurd (omega arith)
digits_more (suc n) t h = onto_more n (suc n) t h ∙ onto_any n (suc n / 10) (suc n / 10) (last (suc n) ∷ t) (omega arith) (omega arith)

-- a number below 10^k has k digits at most
onto_most : (fuel k n : ℕ) (t : List ℕ) → 1 ≤ k → n < 10 ^ k → length (digits_onto fuel n t) ≤ k + length t
unfolding digits_onto
onto_most zero k n t o h = omega arith
onto_most (suc fuel) k n t o h = go (dec_lt n 10) (onto_most fuel (k - 1) (n / 10) ((48 + n % 10) ∷ t))
  where
    go : Dec (n < 10) → (1 ≤ k - 1 → n / 10 < 10 ^ (k - 1) → length (digits_onto fuel (n / 10) ((48 + n % 10) ∷ t)) ≤ k - 1 + length ((48 + n % 10) ∷ t))
        → length (digits_onto (suc fuel) n t) ≤ k + length t
    go (yes l) ih = rw (digits_onto, lt-ltb n 10 l) (omega arith)
    go (no l) ih =
        let b = tenth k n (omega arith) h in
        let r = ih (omega (arith, b.0)) b.1 in
        rw (digits_onto, le-ltb n 10 (omega arith)) (omega arith)

pub digits_most : (k n : ℕ) → 1 ≤ k → n < 10 ^ k → length (digits n) ≤ k
unfolding digits
digits_most k n o h = omega (arith, onto_most n k n [] o h)

pub decimal_most : (k : ℕ) (z : ℤ) → 1 ≤ k → nat_abs z < 10 ^ k → length (decimal_of z) ≤ k + 1
unfolding decimal_of
decimal_most k (pos n) o h = omega (arith, digits_most k n o h)
decimal_most k (negsuc n) o h = omega (arith, digits_most k (suc n) o h)

by_size : (n : ℤ) → nat_abs n ≤ 9223372036854775808 → length (decimal_of n) ≤ 20
unfolding decimal_of digits
by_size (pos n) h = omega (arith, onto_most n 20 n [] (omega arith) (omega arith))
by_size (negsuc n) h = omega (arith, onto_most (suc n) 19 (suc n) [] (omega arith) (omega arith))

pub integer_most : (n : ℤ) → SFits w64 n → length (decimal_of n) ≤ 20
integer_most n fit = by_size n (abs_most fit)

-- the two cases of the decimal form, by the test that the code makes
minus_form : (n : ℤ) → lt_z n (pos 0) ≡ true → 45 ∷ digits (nat_abs n) ≡ decimal_of n
unfolding decimal_of
minus_form (pos n) h = absurd (omega ((arith, ltb-true n 0 h)))
minus_form (negsuc n) h = refl

plain_form : (n : ℤ) → lt_z n (pos 0) ≡ false → digits (nat_abs n) ≡ decimal_of n
unfolding decimal_of
plain_form (pos n) h = refl
plain_form (negsuc n) h = let z : ◌≡◌ {A = ℕ} 0 1 = cc in absurd (omega arith)

module _ {n : ℤ} (fit : SFits w64 n) where
  pub form_minus : lt_z (to_z w64 (of_z w64 n)) (pos 0) ≡ true → 45 ∷ digits (nat_abs n) ≡ decimal_of n
  form_minus h = minus_form n (rw (to_z-of_z fit) at h)

  pub form_plain : lt_z (to_z w64 (of_z w64 n)) (pos 0) ≡ false → digits (nat_abs n) ≡ decimal_of n
  form_plain h = plain_form n (rw (to_z-of_z fit) at h)
