-- The pieces of a text that begins with the decimal form of a number.
--     pieces_of inside t    the pieces of t without offsets, where the byte before it is a digit or not
--     mark_first           a byte that is no digit is a piece
--     number_first         a decimal form with such a byte behind it is one piece, which says the number
-- Assumes nothing.
use mathlib.Core.Path.{◌≡◌, refl, sym, ap, ◌∙◌}
use mathlib.Core.Bool.{Bool, true, false}
use mathlib.Core.List.{List, [], ◌∷◌, ◌++◌}
use Prim.Native.Nat.{ℕ, zero, suc, ◌+◌, ◌-◌, ◌*◌, ◌/◌, ◌%◌, ◌≤◌, ◌<◌}
use native.Mathlib.Decide.{dec_lt}
use native.Mathlib.Omega.{arith}
use borrow.Author.Tests.{lt-ltb, le-ltb, le-leb}
use Rattle.decimal.specs.Decimal.{digits_onto, digits}
use Rattle.cycle_notation.specs.Piece.{digit_byte, CyclePiece, number, mark, run_value, number_begun, cycle_pieces_from, without_offsets}

abbrev pub pieces_of : Bool → List ℕ → List CyclePiece
pieces_of inside t = without_offsets (cycle_pieces_from 0 inside t)

any_offset : (t : List ℕ) (a b : ℕ) (i : Bool) → without_offsets (cycle_pieces_from a i t) ≡ without_offsets (cycle_pieces_from b i t)
unfolding cycle_pieces_from without_offsets
any_offset [] a b i = refl
any_offset (c ∷ t) a b i = go (digit_byte c) i (any_offset t (suc a) (suc b) true) (any_offset t (suc a) (suc b) false)
  where
    go : (d i : Bool) → without_offsets (cycle_pieces_from (suc a) true t) ≡ without_offsets (cycle_pieces_from (suc b) true t)
        → without_offsets (cycle_pieces_from (suc a) false t) ≡ without_offsets (cycle_pieces_from (suc b) false t)
        → without_offsets (elim d [
          | true ↦ number_begun i a (c ∷ t) (cycle_pieces_from (suc a) true t)
          | false ↦ record { at = a; piece = mark c } ∷ cycle_pieces_from (suc a) false t
        ]) ≡ without_offsets (elim d [
          | true ↦ number_begun i b (c ∷ t) (cycle_pieces_from (suc b) true t)
          | false ↦ record { at = b; piece = mark c } ∷ cycle_pieces_from (suc b) false t
        ])
    go true true p q = p
    go true false p q = ap (λ (l : List CyclePiece). number (run_value 0 (c ∷ t)) ∷ l) p
    go false i p q = ap (λ (l : List CyclePiece). mark c ∷ l) q

pub mark_first : (i : Bool) (b : ℕ) (t : List ℕ) → digit_byte b ≡ false → pieces_of i (b ∷ t) ≡ mark b ∷ pieces_of false t
unfolding cycle_pieces_from without_offsets
mark_first i b t e = rw (cycle_pieces_from, e) (ap (λ (l : List CyclePiece). mark b ∷ l) (any_offset t 1 0 false))

digit_first : (b : ℕ) (t : List ℕ) → digit_byte b ≡ true → pieces_of false (b ∷ t) ≡ number (run_value 0 (b ∷ t)) ∷ pieces_of true t
unfolding cycle_pieces_from without_offsets
digit_first b t e = rw (cycle_pieces_from, e) (ap (λ (l : List CyclePiece). number (run_value 0 (b ∷ t)) ∷ l) (any_offset t 1 0 true))

digit_next : (b : ℕ) (t : List ℕ) → digit_byte b ≡ true → pieces_of true (b ∷ t) ≡ pieces_of true t
unfolding cycle_pieces_from without_offsets
digit_next b t e = rw (cycle_pieces_from, e) (any_offset t 1 0 true)

run_next : (m b : ℕ) (t : List ℕ) → digit_byte b ≡ true → run_value m (b ∷ t) ≡ run_value (m * 10 + (b - 48)) t
unfolding run_value
run_next m b t e = rw (run_value, e)

run_end : (m b : ℕ) (t : List ℕ) → digit_byte b ≡ false → run_value m (b ∷ t) ≡ m
unfolding run_value
run_end m b t e = rw (run_value, e)

-- ---- the digits of a number

abbrev last : ℕ → ℕ
last n = 48 + n % 10

last_digit : (n : ℕ) → digit_byte (last n) ≡ true
last_digit n = rw (le-leb 48 (last n) (omega arith), le-leb (last n) 57 (omega arith))

last_run_lem : (m n : ℕ) (t : List ℕ) → run_value m (last n ∷ t) ≡ run_value (m * 10 + n % 10) t
last_run_lem m n t = let e : last n - 48 ≡ n % 10 = omega arith in run_next m (last n) t (last_digit n) ∙ ap (λ (k : ℕ). run_value (m * 10 + k) t) e

onto_last : (fuel n : ℕ) (t : List ℕ) → n < 10 → digits_onto fuel n t ≡ last n ∷ t
unfolding digits_onto
onto_last zero n t h = refl
onto_last (suc fuel) n t h = rw (digits_onto, lt-ltb n 10 h)

onto_more : (fuel n : ℕ) (t : List ℕ) → 10 ≤ n → digits_onto (suc fuel) n t ≡ digits_onto fuel (n / 10) (last n ∷ t)
unfolding digits_onto
onto_more fuel n t h = rw (digits_onto, le-ltb n 10 h)

-- read from their front they say the number
onto_run : (fuel n : ℕ) (t : List ℕ) → n ≤ fuel → run_value 0 (digits_onto fuel n t) ≡ run_value n t
onto_run zero n t h = ap (run_value 0) (onto_last zero n t (omega arith)) ∙ last_run_lem 0 n t ∙ ap (λ (k : ℕ). run_value k t) (omega arith)
onto_run (suc fuel) n t h = go (dec_lt n 10) (onto_run fuel (n / 10) (last n ∷ t))
  where
    go : Dec (n < 10) → (n / 10 ≤ fuel → run_value 0 (digits_onto fuel (n / 10) (last n ∷ t)) ≡ run_value (n / 10) (last n ∷ t))
        → run_value 0 (digits_onto (suc fuel) n t) ≡ run_value n t
    go (yes l) ih = ap (run_value 0) (onto_last (suc fuel) n t l) ∙ last_run_lem 0 n t ∙ ap (λ (k : ℕ). run_value k t) (omega arith)
    go (no l) ih = ap (run_value 0) (onto_more fuel n t (omega arith)) ∙ ih (omega arith) ∙ last_run_lem (n / 10) n t ∙ ap (λ (k : ℕ). run_value k t) (omega arith)

-- and they are one piece
one_digit : (n : ℕ) (t l : List ℕ) → l ≡ last n ∷ t → pieces_of false l ≡ number (run_value 0 l) ∷ pieces_of true t
one_digit n t l e =
    ap (pieces_of false) e
    ∙ digit_first (last n) t (last_digit n)
    ∙ ap (λ (k : List ℕ). number (run_value 0 k) ∷ pieces_of true t) (sym e)

onto_pieces : (fuel n : ℕ) (t : List ℕ) → pieces_of false (digits_onto fuel n t) ≡ number (run_value 0 (digits_onto fuel n t)) ∷ pieces_of true t
unfolding digits_onto
onto_pieces zero n t = one_digit n t (digits_onto zero n t) refl
onto_pieces (suc fuel) n t = go (dec_lt n 10) (onto_pieces fuel (n / 10) (last n ∷ t))
  where
    go : Dec (n < 10)
        → pieces_of false (digits_onto fuel (n / 10) (last n ∷ t)) ≡ number (run_value 0 (digits_onto fuel (n / 10) (last n ∷ t))) ∷ pieces_of true (last n ∷ t)
        → pieces_of false (digits_onto (suc fuel) n t) ≡ number (run_value 0 (digits_onto (suc fuel) n t)) ∷ pieces_of true t
    go (yes l) ih = one_digit n t (digits_onto (suc fuel) n t) (onto_last (suc fuel) n t l)
    go (no l) ih =
        let e = onto_more fuel n t (omega arith) in
        ap (pieces_of false) e
        ∙ ih
        ∙ ap (λ (k : List CyclePiece). number (run_value 0 (digits_onto fuel (n / 10) (last n ∷ t))) ∷ k) (digit_next (last n) t (last_digit n))
        ∙ ap (λ (k : List ℕ). number (run_value 0 k) ∷ pieces_of true t) (sym e)

onto_append : (fuel n : ℕ) (t u : List ℕ) → digits_onto fuel n t ++ u ≡ digits_onto fuel n (t ++ u)
unfolding digits_onto
onto_append zero n t u = refl
onto_append (suc fuel) n t u = go (dec_lt n 10) (onto_append fuel (n / 10) (last n ∷ t) u)
  where
    go : Dec (n < 10) → digits_onto fuel (n / 10) (last n ∷ t) ++ u ≡ digits_onto fuel (n / 10) (last n ∷ (t ++ u))
        → digits_onto (suc fuel) n t ++ u ≡ digits_onto (suc fuel) n (t ++ u)
    go (yes l) ih = ap (λ (k : List ℕ). k ++ u) (onto_last (suc fuel) n t l) ∙ sym (onto_last (suc fuel) n (t ++ u) l)
    go (no l) ih = ap (λ (k : List ℕ). k ++ u) (onto_more fuel n t (omega arith)) ∙ ih ∙ sym (onto_more fuel n (t ++ u) (omega arith))

pub number_first : (n b : ℕ) (t : List ℕ) → digit_byte b ≡ false → pieces_of false (digits n ++ (b ∷ t)) ≡ number n ∷ mark b ∷ pieces_of false t
unfolding digits
number_first n b t e =
    ap (pieces_of false) (onto_append n n [] (b ∷ t))
    ∙ onto_pieces n n (b ∷ t)
    ∙ ap (λ (k : ℕ). number k ∷ pieces_of true (b ∷ t)) (onto_run n n (b ∷ t) (omega arith) ∙ run_end n b t e)
    ∙ ap (λ (l : List CyclePiece). number n ∷ l) (mark_first true b t e)
