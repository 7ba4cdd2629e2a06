-- Runs of digits, and the pieces of a text from an offset on.
--     digit_range                       the digits are the bytes from 48 to 57
--     value-yes, value-no               what a run of digits says, by its first byte: a digit, or not
--     digits_more, digits-stop          one byte more: a digit, or not
--     begins-number, goes_on, is-mark   the pieces by the first byte: a digit that begins a number or goes on with one, or a mark
--     number-left, mark-left            the first piece from an offset on: a number, or a mark
-- Assumes nothing.
use mathlib.Core.Path.{◌≡◌, refl, sym, ap, ◌∙◌}
use mathlib.Core.Bool.{Bool, true, false}
use mathlib.Core.List.{List, [], ◌∷◌}
use Prim.Native.Nat.{ℕ, suc, ◌+◌, ◌-◌, ◌*◌, ◌≤◌, ◌<◌, min}
use native.Mathlib.Omega.{arith}
use native.Mathlib.Numerals.{add-one}
use native.Mathlib.Nat.{add-zero, add-suc, suc-add}
use lib.Dec.{eqb, leb}
use lib.ListN.{length, get_or, drop, length-drop}
use lib.Seq.{drop-cons, drop-length, drop-drop}
use borrow.Author.Tests.{leb-true}
use Rattle.basics.specs.Choice.{pick}
use Rattle.basics.proofs.Choice.{and_left, and_right}
use Rattle.cycle_notation.specs.Piece.{number, blank, opening, closing, comma, semicolon, another, mark, PlacedPiece, digit_byte, run_value}
use Rattle.cycle_notation.specs.Piece.{cycle_pieces_from}
use Rattle.cycle_reading.specs.Inner.Hand.{pieces_left, digit_run, bounded}

pub digit_range : (b : ℕ) → digit_byte b ≡ true → (48 ≤ b) × (b ≤ 57)
digit_range b e = (leb-true 48 b (and_left (leb 48 b) (leb b 57) e), leb-true b 57 (and_right (leb 48 b) (leb b 57) e))

-- ---- one byte

module _ (b : ℕ) (l : List ℕ) where
  run_yes : digit_byte b ≡ true → digit_run (b ∷ l) ≡ suc (digit_run l)
  unfolding digit_run
  run_yes e = rw (digit_run, e)

  run_no : digit_byte b ≡ false → digit_run (b ∷ l) ≡ 0
  unfolding digit_run
  run_no e = rw (digit_run, e)

  pub value_yes : (m : ℕ) → digit_byte b ≡ true → run_value m (b ∷ l) ≡ run_value (m * 10 + (b - 48)) l
  unfolding run_value
  value_yes m e = rw (run_value, e)

  pub value_no : (m : ℕ) → digit_byte b ≡ false → run_value m (b ∷ l) ≡ m
  unfolding run_value
  value_no m e = rw (run_value, e)

-- a number past the bound stays past it
pub bound : (l : List ℕ) (m : ℕ) → min (run_value m l) 3067 ≡ min (run_value (min m 3067) l) 3067
unfolding run_value
bound [] m = omega arith
bound (b ∷ l) m = go (digit_byte b) refl (bound l)
  where
    go : (d : Bool) → digit_byte b ≡ d → ((k : ℕ) → min (run_value k l) 3067 ≡ min (run_value (min k 3067) l) 3067)
        → min (run_value m (b ∷ l)) 3067 ≡ min (run_value (min m 3067) (b ∷ l)) 3067
    go true e ih =
        let same : min (m * 10 + (b - 48)) 3067 ≡ min (min m 3067 * 10 + (b - 48)) 3067 = omega arith in
        ap (λ (k : ℕ). min k 3067) (value_yes b l m e)
        ∙ ih (m * 10 + (b - 48))
        ∙ ap (λ (k : ℕ). min (run_value k l) 3067) same
        ∙ sym (ih (min m 3067 * 10 + (b - 48)))
        ∙ ap (λ (k : ℕ). min k 3067) (sym (value_yes b l (min m 3067) e))
    go false e ih =
        ap (λ (k : ℕ). min k 3067) (value_no b l m e) ∙ omega arith ∙ ap (λ (k : ℕ). min k 3067) (sym (value_no b l (min m 3067) e))

-- ---- within a text

module _ (t : List ℕ) (i : ℕ) (h : i < length t) where
  pub digits_more : digit_byte (get_or t i 0) ≡ true → i + digit_run (drop i t) ≡ (i + 1) + digit_run (drop (i + 1) t)
  digits_more e =
      let a : digit_run (drop i t) ≡ suc (digit_run (drop (i + 1) t)) = rw (drop-cons t i 0 h, add-one) (run_yes (get_or t i 0) (drop (suc i) t) e) in
      omega arith

  pub value_more : (v : ℕ) → digit_byte (get_or t i 0) ≡ true
      → min (run_value v (drop i t)) 3067 ≡ min (run_value (min (v * 10 + (get_or t i 0 - 48)) 3067) (drop (i + 1) t)) 3067
  value_more v e =
      let z : suc i ≡ i + 1 = omega arith in
      ap (λ (l : List ℕ). min (run_value v l) 3067) (drop-cons t i 0 h)
      ∙ ap (λ (k : ℕ). min k 3067) (value_yes (get_or t i 0) (drop (suc i) t) v e)
      ∙ bound (drop (suc i) t) (v * 10 + (get_or t i 0 - 48))
      ∙ ap (λ (k : ℕ). min (run_value (min (v * 10 + (get_or t i 0 - 48)) 3067) (drop k t)) 3067) z

  pub digits_stop : digit_byte (get_or t i 0) ≡ false → digit_run (drop i t) ≡ 0
  digits_stop e = ap digit_run (drop-cons t i 0 h) ∙ run_no (get_or t i 0) (drop (suc i) t) e

  pub value_stop : (v : ℕ) → digit_byte (get_or t i 0) ≡ false → run_value v (drop i t) ≡ v
  value_stop v e = ap (run_value v) (drop-cons t i 0 h) ∙ value_no (get_or t i 0) (drop (suc i) t) v e

pub digits_end : (t : List ℕ) → digit_run (drop (length t) t) ≡ 0
unfolding digit_run
digits_end t = rw (drop-length t)

pub value_end : (t : List ℕ) (v : ℕ) → run_value v (drop (length t) t) ≡ v
unfolding run_value
value_end t v = rw (drop-length t)

-- ---- the first piece

module _ (b : ℕ) (l : List ℕ) (at : ℕ) where
  pub begins_number : digit_byte b ≡ true → cycle_pieces_from at false (b ∷ l)
      ≡ record { at = at; piece = number (run_value 0 (b ∷ l)) } ∷ cycle_pieces_from (suc at) true l
  unfolding cycle_pieces_from
  begins_number e = rw (cycle_pieces_from, e)

  pub goes_on : digit_byte b ≡ true → cycle_pieces_from at true (b ∷ l) ≡ cycle_pieces_from (suc at) true l
  unfolding cycle_pieces_from
  goes_on e = rw (cycle_pieces_from, e)

  pub is_mark : (inside : Bool) → digit_byte b ≡ false → cycle_pieces_from at inside (b ∷ l)
      ≡ record { at = at; piece = mark b } ∷ cycle_pieces_from (suc at) false l
  unfolding cycle_pieces_from
  is_mark inside e = rw (cycle_pieces_from, e)

-- the rest of a run of digits begins no piece
pub run_over : (l : List ℕ) (at : ℕ) → cycle_pieces_from at true l ≡ cycle_pieces_from (at + digit_run l) false (drop (digit_run l) l)
unfolding cycle_pieces_from digit_run
run_over [] at = refl
run_over (b ∷ l) at = go (digit_byte b) refl (run_over l (suc at))
  where
    go : (d : Bool) → digit_byte b ≡ d → cycle_pieces_from (suc at) true l ≡ cycle_pieces_from (suc at + digit_run l) false (drop (digit_run l) l)
        → cycle_pieces_from at true (b ∷ l) ≡ cycle_pieces_from (at + digit_run (b ∷ l)) false (drop (digit_run (b ∷ l)) (b ∷ l))
    go true e ih = rw (run_yes b l e, goes_on b l at e, ih, suc-add, add-suc)
    go false e ih = rw (run_no b l e, add-zero) (is_mark b l at true e ∙ sym (is_mark b l at false e))

module _ (t : List ℕ) (at : ℕ) (h : at < length t) where
  pub number_left : digit_byte (get_or t at 0) ≡ true
      → pieces_left t at ≡ record { at = at; piece = number (run_value 0 (drop at t)) } ∷ pieces_left t (at + digit_run (drop at t))
  unfolding pieces_left
  number_left e =
      let digits : at + digit_run (drop at t) ≡ suc at + digit_run (drop (suc at) t) =
      omega (arith, ap digit_run (drop-cons t at 0 h) ∙ run_yes (get_or t at 0) (drop (suc at) t) e) in
      ap (cycle_pieces_from at false) (drop-cons t at 0 h)
      ∙ begins_number (get_or t at 0) (drop (suc at) t) at e
      ∙ rw (digits, ← drop-cons t at 0 h) (ap (λ (ps : List PlacedPiece). record { at = at; piece = number (run_value 0 (drop at t)) } ∷ ps)
      (run_over (drop (suc at) t) (suc at) ∙ ap (λ (l : List ℕ). cycle_pieces_from (suc at + digit_run (drop (suc at) t)) false l)
      (drop-drop (digit_run (drop (suc at) t)) (suc at) t)))

  pub mark_left : digit_byte (get_or t at 0) ≡ false → pieces_left t at ≡ record { at = at; piece = mark (get_or t at 0) } ∷ pieces_left t (at + 1)
  unfolding pieces_left
  mark_left e = ap (cycle_pieces_from at false) (drop-cons t at 0 h) ∙ is_mark (get_or t at 0) (drop (suc at) t) at false e ∙ rw add-one

pub run_le : (l : List ℕ) → digit_run l ≤ length l
unfolding digit_run
run_le [] = omega arith
run_le (b ∷ l) = go (digit_byte b) refl (run_le l)
  where
    go : (d : Bool) → digit_byte b ≡ d → digit_run l ≤ length l → digit_run (b ∷ l) ≤ length (b ∷ l)
    go true e h = omega (arith, run_yes b l e)
    go false e h = omega (arith, run_no b l e)

pub run_inside : (t : List ℕ) (at : ℕ) → at ≤ length t → at + digit_run (drop at t) ≤ length t
run_inside t at h = omega (arith, run_le (drop at t), length-drop at t)

-- a mark is no number, and has no bound
pub bounded_mark : (b : ℕ) → bounded (mark b) ≡ mark b
bounded_mark b = go (eqb b 32) (eqb b 40) (eqb b 41) (eqb b 44) (eqb b 59)
  where
    go : (p q r s u : Bool) → bounded (pick p blank (pick q opening (pick r closing (pick s comma (pick u semicolon another)))))
        ≡ pick p blank (pick q opening (pick r closing (pick s comma (pick u semicolon another))))
    go true q r s u = refl
    go false true r s u = refl
    go false false true s u = refl
    go false false false true u = refl
    go false false false false true = refl
    go false false false false false = refl
