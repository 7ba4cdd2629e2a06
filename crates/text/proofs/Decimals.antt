-- The decimal form of a number, read back.
--     write_then_read         reading the decimal form of a number gives the number back
--     no_blank                the decimal form has no blank byte
--     one_piece               so that it is a text of one piece, which says the number
--     number_first            and with a blank byte behind it, it is the first piece of a text
-- Assumes nothing.
use Rattle.std.specs.Prelude.{Some}
use mathlib.Core.Path.{◌≡◌, refl, ap, ◌∙◌}
use mathlib.Core.Bool.{true, false}
use mathlib.Core.List.{List, [], ◌∷◌}
use Prim.Native.Nat.{ℕ, zero, suc, ◌+◌, ◌-◌, ◌*◌, ◌/◌, ◌%◌, ◌≤◌, ◌<◌, ◌^◌}
use native.Mathlib.Decide.{dec_lt}
use native.Mathlib.Omega.{arith}
use lib.IntN.{ℤ, pos, negsuc, neg_ℤ}
use lib.ListN.{length, get_or}
use borrow.Author.Tests.{le-leb, ne_eqb}
use Rattle.text.specs.Blank.{is_blank, unbroken}
use Rattle.text.specs.Number.{is_digit, onward, natural_from, within, mapped, integer_from}
use Rattle.text.specs.Piece.{pieces}
use Rattle.decimal.specs.Decimal.{digits_onto, digits, decimal_of}
use Rattle.decimal.proofs.Decimals.{last, onto_last, onto_more}
use Rattle.text.specs.Laws.{WriteThenRead, NoBlank, OnePiece, NumberFirst}
use Rattle.text.proofs.Pieces.{one_run, run_first}
use Rattle.text.proofs.Numbers.{digit_yes, onward_yes, natural_onward, number_plain}

-- what holds of each digit in front holds of all of them
last_digit : (n : ℕ) → is_digit (last n) ≡ true
last_digit n = digit_yes (last n) (omega arith) (omega arith)

last_blank : (n : ℕ) → is_blank (last n) ≡ false
unfolding is_blank
last_blank n = rw (ne_eqb (last n) 32 (λ e. omega arith), ne_eqb (last n) 10 (λ e. omega arith), ne_eqb (last n) 13 (λ e. omega arith))

-- a digit put behind m
last_onward : (m n : ℕ) (t : List ℕ) → onward m (last n ∷ t) ≡ onward (m * 10 + n % 10) t
last_onward m n t =
    let e : last n - 48 ≡ n % 10 = omega arith in
    onward_yes m (last n) t (last_digit n) ∙ rw e

onto_onward : (fuel n : ℕ) (t : List ℕ) → n ≤ fuel → onward 0 (digits_onto fuel n t) ≡ onward n t
onto_onward zero n t h = rw (onto_last zero n t (omega arith)) (last_onward 0 n t ∙ ap (λ (k : ℕ). onward k t) (omega arith))
onto_onward (suc fuel) n t h = go (dec_lt n 10) (onto_onward fuel (n / 10) (last n ∷ t))
  where
    go : Dec (n < 10) → (n / 10 ≤ fuel → onward 0 (digits_onto fuel (n / 10) (last n ∷ t)) ≡ onward (n / 10) (last n ∷ t))
        → onward 0 (digits_onto (suc fuel) n t) ≡ onward n t
    go (yes l) ih = rw (onto_last (suc fuel) n t l) (last_onward 0 n t ∙ ap (λ (k : ℕ). onward k t) (omega arith))
    go (no l) ih = rw (onto_more fuel n t (omega arith)) (ih (omega arith) ∙ last_onward (n / 10) n t ∙ ap (λ (k : ℕ). onward k t) (omega arith))

-- the first of the digits
onto_first : (fuel n : ℕ) (t : List ℕ) → (0 < length (digits_onto fuel n t)) × (48 ≤ get_or (digits_onto fuel n t) 0 0)
unfolding digits_onto
onto_first zero n t = (omega arith, omega arith)
onto_first (suc fuel) n t = go (dec_lt n 10) (onto_first fuel (n / 10) (last n ∷ t))
  where
    go : Dec (n < 10) → (0 < length (digits_onto fuel (n / 10) (last n ∷ t))) × (48 ≤ get_or (digits_onto fuel (n / 10) (last n ∷ t)) 0 0)
        → (0 < length (digits_onto (suc fuel) n t)) × (48 ≤ get_or (digits_onto (suc fuel) n t) 0 0)
    go (yes l) ih = rw (onto_last (suc fuel) n t l) (omega arith, omega arith)
    go (no l) ih = rw (onto_more fuel n t (omega arith)) ih

last_unbroken : (n : ℕ) (t : List ℕ) → unbroken t ≡ true → unbroken (last n ∷ t) ≡ true
unfolding unbroken
last_unbroken n t h = rw (unbroken, last_blank n) h

onto_unbroken : (fuel n : ℕ) (t : List ℕ) → unbroken t ≡ true → unbroken (digits_onto fuel n t) ≡ true
unfolding digits_onto
onto_unbroken zero n t h = last_unbroken n t h
onto_unbroken (suc fuel) n t h = go (dec_lt n 10) (onto_unbroken fuel (n / 10) (last n ∷ t) (last_unbroken n t h))
  where
    go : Dec (n < 10) → unbroken (digits_onto fuel (n / 10) (last n ∷ t)) ≡ true → unbroken (digits_onto (suc fuel) n t) ≡ true
    go (yes l) ih = rw (onto_last (suc fuel) n t l) (last_unbroken n t h)
    go (no l) ih = rw (onto_more fuel n t (omega arith)) ih

-- the digits of n are read as n
digits_natural : (n : ℕ) → natural_from (digits n) ≡ Some n
unfolding digits onward
digits_natural n = natural_onward (digits n) (onto_first n n []).0 ∙ onto_onward n n [] (omega arith)

digits_within : (most n : ℕ) → n ≤ most → within most (natural_from (digits n)) ≡ Some n
unfolding within
digits_within most n h = rw (digits_natural n, le-leb n most h)

digits_number : (n : ℕ) → n < 2 ^ 63 → integer_from (digits n) ≡ Some (pos n)
unfolding digits
digits_number n h =
    number_plain (digits n) (onto_first n n []).0 (λ e. omega (arith, (onto_first n n []).1))
    ∙ ap (mapped pos) (digits_within 9223372036854775807 n (omega arith))

minus_number : (n : ℕ) → n ≤ 2 ^ 63 → integer_from (45 ∷ digits n) ≡ Some (neg_ℤ (pos n))
unfolding integer_from
minus_number n h = ap (mapped (λ k. neg_ℤ (pos k))) (digits_within (2 ^ 63) n h)

pub write_then_read : WriteThenRead
unfolding decimal_of
write_then_read (pos n) h = digits_number n h
write_then_read (negsuc n) h = minus_number (suc n) h

pub no_blank : NoBlank
unfolding decimal_of digits unbroken is_blank
no_blank (pos n) = onto_unbroken n n [] refl
no_blank (negsuc n) = onto_unbroken (suc n) (suc n) [] refl

one_text : (t : List ℕ) → 0 < length t → unbroken t ≡ true → pieces t ≡ record { at = 0; says = integer_from t } ∷ []
one_text [] h u = absurd (omega arith)
one_text (b ∷ t) h u = one_run b t u

some_byte : (z : ℤ) → 0 < length (decimal_of z)
unfolding decimal_of digits
some_byte (pos n) = (onto_first n n []).0
some_byte (negsuc n) = omega arith

pub one_piece : OnePiece
one_piece z h = rw (← write_then_read z h) (one_text (decimal_of z) (some_byte z) (no_blank z))

pub number_first : NumberFirst
number_first z b t at h e = rw (← write_then_read z h) (run_first (decimal_of z) b t at (some_byte z) (no_blank z) e)
