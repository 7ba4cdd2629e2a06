-- A SHEET OF PAIRS against one symbol (docs/CONVENTIONS.md, 15): line by line it equals single queries in the same word
-- space, the first from place 0, each next from where the last word ended. A pair that is refused uses no word space.
--
--   matrix_a p i, matrix_b p i  A and B of the pair i, counted from 0: eight entries for each pair, one pair after
--                             another
--   pairs_in p                how many pairs there are
--   bad_count n               whether n entries are no sheet: not a multiple of 8, or over 2,048
--   WordSpace                 the word space between two queries: what stands in it, and where the next word starts
--   word_end r start          where the next word starts after the answer r: behind a word, and else where it would
--                             have
--   answer_in, space_after     the answer of a single query in a word space, and that space after it
--   space_at v t p work out i  the word space before the pair i
--   answer_at .. i            THE ANSWER FOR THE PAIR i: that of the single query in this word space, from where the
--                             next word starts
--   line_of r                  the line of an answer: 0, the word's start, its length, and 1 or -1 for its sign; or the
--                             refusal, its place, 0 and 0
--   lines_to .. i             the lines of the first i pairs, one after another
--   line_in lines i           the line of the pair i in a line table: four numbers, from place 4i on
--   entries_check n           11 with place 2,048 for a number of entries that is no sheet
--   line_steps .. lines out   the lines in their table, counted in whole lines, and the words in the word space
--   sheet_steps               THE STEPS OF A SHEET: the number of entries, then the checks of the symbol, then the work
--                             space, then the line table; it leaves the lines and the words
--   sheet_checks              what they refuse, by the lengths of the spaces
use Rattle.std.specs.Prelude.{Ok, Err}
use Rattle.std.specs.Prelude.{Bool, not, ◌||◌, List, [], ◌∷◌, ◌++◌, ℕ, zero, suc, ◌+◌, ◌*◌, ◌/◌, ◌%◌, ltb, eqb}
use Rattle.std.specs.Prelude.{length, take, drop, ℤ, pos}
use Rattle.matrix.specs.Matrix.{of_list}
use Rattle.call.specs.Space.{work_length}
use Rattle.call.specs.Refusal.{refusal_number, refusal_place, Checked, Answer}
use Rattle.call.specs.declared.refusal.Refusal.TheVariants.{TooShort}
use Rattle.call.specs.Call.{Lent, Step, asks, work, result_in, stores_rows, length_check}
use Rattle.symbol.specs.Check.{refuse, symbol_check}
use Rattle.word.specs.Answer.{four, found_word, sign_number, query_of, word_left}
use Rattle.word.specs.declared.FoundWord.{FoundWord}

-- ---- the pairs

abbrev pub matrix_a : List ℤ → ℕ → List ℤ
matrix_a p i = four p (8 * i)

abbrev pub matrix_b : List ℤ → ℕ → List ℤ
matrix_b p i = four p (8 * i + 4)

abbrev pub pairs_in : List ℤ → ℕ
pairs_in p = length p / 8

abbrev pub bad_count : ℕ → Bool
bad_count n = not (eqb (n % 8) 0) || ltb 2048 n

-- ---- one query after another

pub record WordSpace : Type 0 where
  pub letters : List ℤ
  pub next : ℕ

abbrev pub word_end : Answer FoundWord → ℕ → ℕ
word_end (Ok u) next = u.start + u.letters
word_end (Err f) next = next

-- the answer for a pair in a word space, and the word space after it
abbrev pub answer_in : (v : ℕ) (t a b : List ℤ) (work : ℕ) → WordSpace → (Answer FoundWord)
answer_in v t a b work s = query_of v t a b work (length s.letters) s.next

abbrev pub space_after : (v : ℕ) (t a b : List ℤ) (work : ℕ) → WordSpace → WordSpace
space_after v t a b work s =
    let r = answer_in v t a b work s in
    record {
      letters = word_left r (found_word v t (of_list a) (of_list b)) s.letters;
      next = word_end r s.next;
    }

unfoldable pub space_at : (v : ℕ) (t p : List ℤ) (work : ℕ) (out : List ℤ) → ℕ → WordSpace
space_at v t p work out zero = record { letters = out; next = 0 }
space_at v t p work out (suc i) = space_after v t (matrix_a p i) (matrix_b p i) work (space_at v t p work out i)

abbrev pub answer_at : (v : ℕ) (t p : List ℤ) (work : ℕ) (out : List ℤ) → ℕ → (Answer FoundWord)
answer_at v t p work out i = answer_in v t (matrix_a p i) (matrix_b p i) work (space_at v t p work out i)

-- ---- the lines

abbrev pub line_of : Answer FoundWord → List ℤ
line_of (Ok u) = pos 0 ∷ pos u.start ∷ pos u.letters ∷ sign_number u.plus ∷ []
line_of (Err f) = pos (refusal_number f) ∷ pos (refusal_place f) ∷ pos 0 ∷ pos 0 ∷ []

unfoldable pub lines_to : (v : ℕ) (t p : List ℤ) (work : ℕ) (out : List ℤ) → ℕ → List ℤ
lines_to v t p work out zero = []
lines_to v t p work out (suc i) = lines_to v t p work out i ++ line_of (answer_at v t p work out i)

abbrev pub line_in : List ℤ → ℕ → List ℤ
line_in lines i = take 4 (drop (4 * i) lines)

-- ---- the steps

abbrev pub entries_check : ℕ → Checked
entries_check n = refuse (bad_count n) (TooShort 2048)

abbrev pub line_steps : (v : ℕ) (t p : List ℤ) (work : ℕ) → (lines out : Lent (List ℤ)) → List Step
line_steps v t p work lines out =
    stores_rows 4 (pairs_in p) (lines_to v t p work out.entry.now (pairs_in p)) lines
    ++ result_in (space_at v t p work out.entry.now (pairs_in p)).letters out

abbrev pub sheet_steps : (v : ℕ) (t p : List ℤ) → Lent (List ℕ) → (lines out : Lent (List ℤ)) → List Step
sheet_steps v t p w lines out =
    asks (entries_check (length p)) ++ asks (symbol_check v t) ++ work w
    ++ line_steps v t p (length w.entry.now) lines out

abbrev pub sheet_checks : (v : ℕ) (t p : List ℤ) (work lines : ℕ) → List Step
sheet_checks v t p work lines =
    asks (entries_check (length p)) ++ asks (symbol_check v t) ++ asks (length_check work_length work)
    ++ asks (length_check (pairs_in p) (lines / 4))
