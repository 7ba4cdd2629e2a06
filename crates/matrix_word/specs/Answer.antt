-- ONE MATRIX: the word that carries the identity to M, and whether M is in the group (docs/CONVENTIONS.md, 20). The
-- answers are those of the pair query from the identity to M (word/specs/Answer.antt, Claim.antt), for entries up to
-- 10¹⁸ in size: no product of two matrices is formed.
--
--   most_entry                  the largest size of an entry: 10¹⁸
--   identity_rows               the identity, row by row
--   oversized m i               whether the entry i of m is beyond that in size
--   matrix_check m              28 for the first entry that is; then 9, place 0
--   is_member v t m             whether the walk along m ends where it began
--   member_word v t m           the word that it writes
--   member_sign v t m           the sign that it tells: the word is that sign times m, where the walk comes home
--   member_steps v t m w        THE STEPS OF YES OR NO: the checks 1 to 7, then 28 and 9, then the work space
--   member_of v t m work        the answer: yes where the walk along m comes home, or no; or the refusal
--   matrix_word_steps v t m w out start  THE STEPS OF A WORD: these, then 10, then the word space, in which it leaves
--                               its word from the start place on
--   matrix_word_of v t m work room start  the answer, by the lengths of the spaces
use Rattle.std.specs.Prelude.{Bool, not, List, [], ◌∷◌, ◌++◌, ℕ, leb, ℤ, pos, nat_abs}
use Rattle.basics.specs.Count.{first}
use Rattle.matrix.specs.Matrix.{nth, of_list}
use Rattle.call.specs.Space.{work_length}
use Rattle.call.specs.Refusal.{◌or_else◌, Checked, Decision, Answer}
use Rattle.call.specs.declared.refusal.Refusal.TheVariants.{LargeEntry, BadDeterminant}
use Rattle.call.specs.Call.{Lent, Step, asks, work, length_check, verdict}
use Rattle.call.specs.Inner.Fills.{decided}
use Rattle.symbol.specs.Check.{refuse, refuse_at, symbol_check}
use Rattle.word.specs.Answer.{unit, closes, found_word, found_sign, found_steps, found_checks, found_if}
use Rattle.word.specs.declared.FoundWord.{FoundWord}

-- ---- the matrix

abbrev pub most_entry : ℕ
most_entry = 1000000000000000000

abbrev pub identity_rows : List ℤ
identity_rows = pos 1 ∷ pos 0 ∷ pos 0 ∷ pos 1 ∷ []

abbrev pub oversized : List ℤ → ℕ → Bool
oversized m i = not (leb (nat_abs (nth m i)) most_entry)

abbrev pub matrix_check : List ℤ → Checked
matrix_check m = refuse_at (first (oversized m) 4) 4 LargeEntry or_else refuse (not (unit m)) (BadDeterminant 0)

-- ---- the walk

abbrev pub is_member : ℕ → (t m : List ℤ) → Bool
is_member v t m = closes v t (of_list identity_rows) (of_list m)

abbrev pub member_word : ℕ → (t m : List ℤ) → List ℤ
member_word v t m = found_word v t (of_list identity_rows) (of_list m)

abbrev pub member_sign : ℕ → (t m : List ℤ) → Bool
member_sign v t m = found_sign v t (of_list identity_rows) (of_list m)

-- ---- yes or no

abbrev pub member_steps : (v : ℕ) (t m : List ℤ) → Lent (List ℕ) → List Step
member_steps v t m w = asks (symbol_check v t) ++ asks (matrix_check m) ++ work w

abbrev pub member_of : (v : ℕ) (t m : List ℤ) (work : ℕ) → Decision
member_of v t m work =
    decided (is_member v t m)
    (verdict (asks (symbol_check v t) ++ asks (matrix_check m) ++ asks (length_check work_length work)))

-- ---- the word

abbrev pub matrix_word_steps : (v : ℕ) (t m : List ℤ) → Lent (List ℕ) → Lent (List ℤ) → (start : ℕ) → List Step
matrix_word_steps v t m w out start = member_steps v t m w ++ found_steps v t identity_rows m out start

abbrev pub matrix_word_of : (v : ℕ) (t m : List ℤ) (work room start : ℕ) → (Answer FoundWord)
matrix_word_of v t m work room start =
    found_if v t identity_rows m start
    (verdict (asks (symbol_check v t) ++ asks (matrix_check m) ++ asks (length_check work_length work)
    ++ found_checks v t identity_rows m start room))
