-- What the inner functions of a sheet ask for, and give.
--
--   pair_steps v t a b out start   the steps for a pair where the symbol is accepted and the work space is long enough:
--                                  8 and 9, then 10, then the word space
--   pair_of v t a b room start      the answer by them
--   SheetReady v t p w             the sheet passes its checks, and the work space is long enough
--   row_at k i row lines            the row in place of the k numbers that stood at the place i of a table of such rows
--   Fitting r                      the numbers of the line of r fit 64 signed bits, and so does the end of its word
use Rattle.std.specs.Prelude.{Ok, Err}
use Rattle.std.specs.Prelude.{◌≡◌, Bool, false, List, ◌++◌, ℕ, ◌+◌, ◌*◌, ◌^◌, ◌≤◌, ◌<◌, length, take, drop, ℤ}
use Rattle.call.specs.declared.refusal.Refusal.{Refusal}
use Rattle.call.specs.Space.{work_length}
use Rattle.symbol.specs.Symbol.{IsSymbol}
use Rattle.call.specs.Call.{Lent, Step, asks, verdict}
use Rattle.word.specs.Answer.{matrices_check, found_steps, found_checks, found_if, word_at}
use Rattle.call.specs.Refusal.{Answer, refusal_number, refusal_place}
use Rattle.word.specs.declared.FoundWord.{FoundWord}
use Rattle.sheets.specs.Sheet.{bad_count}

abbrev pub pair_steps : (v : ℕ) (t a b : List ℤ) → Lent (List ℤ) → (start : ℕ) → List Step
pair_steps v t a b out start = asks (matrices_check a b) ++ found_steps v t a b out start

abbrev pub pair_of : (v : ℕ) (t a b : List ℤ) (room start : ℕ) → (Answer FoundWord)
pair_of v t a b room start =
    found_if v t a b start (verdict (asks (matrices_check a b) ++ found_checks v t a b start room))

pub record SheetReady (v : ℕ) (t p : List ℤ) (w : List ℕ) : Type 0 where
  pub symbol : IsSymbol v t
  pub count : bad_count (length p) ≡ false
  pub work : work_length ≤ length w

abbrev pub row_at : (k i : ℕ) → (row lines : List ℤ) → List ℤ
row_at k i row lines = take (k * i) lines ++ row ++ drop (k * i + k) lines

pub record Fitting (r : Answer FoundWord) : Type 0 where
  pub word : (start n : ℕ) (sign : Bool) → r ≡ Ok (word_at start n sign) → start + n < 2 ^ 63
  pub refused : (f : Refusal) → r ≡ Err f → (refusal_number f < 2 ^ 63) × (refusal_place f < 2 ^ 63)
