-- How the line table of a sheet is printed, and the slices that the program lends.
--
--   is_word line              of a line of the table, its first number is 0: it names a word
--   named_word line letters   the letters that it then names in the word space
--   printed_row line letters  the bytes for it
--   used line letters         how many letters of the word space it names
--   printed_rows lines letters i, used_to lines letters i  the same for the first i lines
--   SheetSpaces w lines letters out   the slices have the lengths that the program names
--   SheetNumbers ns           the numbers of a text whose symbol is whole
--   LinesRoom lines letters n out     n lines of the table, at most 256, name no more letters than the word space has,
--                                     and out has room for them
use Rattle.std.specs.Prelude.{◌≡◌, Bool, not, List, [], ◌∷◌, ◌++◌, ℕ, zero}
use Rattle.std.specs.Prelude.{suc, ◌+◌, ◌*◌, ◌≤◌, eqb, ℤ, pos, nat_abs, length}
use Rattle.std.specs.Int.Signed.{lt_z}
use Rattle.basics.specs.Choice.{pick}
use Rattle.matrix.specs.Matrix.{nth}
use Rattle.call.specs.Space.{work_length}
use Rattle.decimal.specs.Ascii.{ascii}
use Rattle.text.specs.Line.{natural, line}
use Rattle.word.specs.Answer.{part_of}
use Rattle.query_text.specs.Reply.{word_head, letters_lent}
use Rattle.text.specs.Reading.{count_in}
use Rattle.sheets.specs.Sheet.{line_in}
use Rattle.query_text.specs.Printed.{lines_lent}

abbrev pub is_word : List ℤ → Bool
is_word l = eqb (nat_abs (nth l 0)) 0

abbrev pub named_word : (l letters : List ℤ) → List ℤ
named_word l letters = part_of letters (nat_abs (nth l 1)) (nat_abs (nth l 2))

unfoldable pub printed_row : (l letters : List ℤ) → List ℕ
printed_row l letters =
    pick (is_word l)
    (line (word_head (not (lt_z (nth l 3) (pos 0)))) (named_word l letters))
    (line (ascii "refused") (natural (nat_abs (nth l 0)) ∷ natural (nat_abs (nth l 1)) ∷ []))

unfoldable pub used : (l letters : List ℤ) → ℕ
used l letters = pick (is_word l) (length (named_word l letters)) 0

unfoldable pub printed_rows : (lines letters : List ℤ) → ℕ → List ℕ
printed_rows lines letters zero = []
printed_rows lines letters (suc i) = printed_rows lines letters i ++ printed_row (line_in lines i) letters

unfoldable pub used_to : (lines letters : List ℤ) → ℕ → ℕ
used_to lines letters zero = 0
used_to lines letters (suc i) = used_to lines letters i + used (line_in lines i) letters

pub record SheetSpaces (w : List ℕ) (lines letters : List ℤ) (out : List ℕ) : Type 0 where
  pub work : length w ≡ work_length
  pub table : length lines ≡ lines_lent
  pub lent : length letters ≡ letters_lent
  pub out_long : 131072 ≤ length out

pub record SheetNumbers (ns : List ℤ) : Type 0 where
  pub most : count_in ns ≤ 1023
  pub whole : 3 * count_in ns + 2 ≤ length ns

pub record LinesRoom (lines letters : List ℤ) (n : ℕ) (out : List ℕ) : Type 0 where
  pub few : n ≤ 256
  pub table : 4 * n ≤ length lines
  pub word_space : (i : ℕ) → i ≤ n → used_to lines letters i ≤ 16384
  pub out_long : 131072 ≤ length out
