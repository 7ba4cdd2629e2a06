-- WHAT THE JOB `sheet` WRITES, byte for byte (docs/CONVENTIONS.md, 10.9). The text has a symbol's text and behind it
-- the entries of the pairs, any number of them.
--
--   sheet_reading longer t       what a text gives, in this order: 19 for its length, for its first piece that is no
--                                number, for no number at all; 1 for a v that is out of range, and then nothing is
--                                counted; 19 where the symbol isn't whole; 11 with 2,048 for a number of entries that
--                                is no sheet; or all its numbers
--   table_of ns, pairs_of ns      the symbol's table, which is the 3v + 1 numbers behind v, and the entries behind these
--   lines_lent                   the numbers of the line table that the program lends: 256 lines
--   unused                       the word space before the first query; what stands in it is free (`SheetPrinted`)
--   pair_line v t p letters i    THE LINE FOR THE PAIR i: that of the single query's answer in this word space
--   pair_lines .. n              the lines of the first n pairs, one after another
--   sheet_verdict ns             what the sheet refuses in the program's spaces
--   lines_if c ls                the refusal's line, or the lines ls
--   printed ns                   the bytes for the numbers ns
--   sheet_bytes longer t         the bytes for a text
--   SheetPrinted ns bytes        a line for each pair, and of its answer the claim holds, in all spaces of the
--                                program's lengths
--   SheetPrintMeans longer t bytes    that holds for every text that gives numbers
use Rattle.std.specs.Prelude.{Ok, Err, Option, None, Some}
use Rattle.std.specs.Prelude.{◌≡◌, Bool, ◌||◌, List, [], ◌∷◌, ◌++◌, ℕ, zero, suc}
use Rattle.std.specs.Prelude.{◌+◌, ◌-◌, ◌*◌, ◌<◌, ltb, ℤ, pos, length, take, drop, replicate}
use Rattle.basics.specs.Choice.{pick}
use Rattle.matrix.specs.Matrix.{of_list}
use Rattle.call.specs.Refusal.{Checked, Filled}
use Rattle.call.specs.declared.refusal.Refusal.TheVariants.{BadVertexCount, TooShort, BadText}
use Rattle.call.specs.Space.{work_length}
use Rattle.call.specs.Call.{verdict}
use Rattle.text.specs.Piece.{pieces, first_bad, numbers}
use Rattle.text.specs.Reading.{text_most, wanted, symbol_format, by_reading}
use Rattle.text.specs.Line.{refusal_line}
use Rattle.word.specs.Answer.{found_word}
use Rattle.query_text.specs.Reply.{said, letters_lent}
use Rattle.text.specs.Reading.{count_in}
use Rattle.sheets.specs.Sheet.{matrix_a, matrix_b, pairs_in, bad_count, space_at, answer_at, sheet_checks}
use Rattle.sheets.specs.Meaning.{LineMeans}

-- ---- the text

-- by the count w of a symbol's numbers, where a text of n bytes has k numbers
abbrev pub by_wanted : Option ℕ → (k n : ℕ) → Filled
by_wanted None k n = Err BadVertexCount
by_wanted (Some w) k n =
    pick (ltb k w) (Err (BadText n)) (pick (bad_count (k - w)) (Err (TooShort 2048)) (Ok k))

unfoldable pub by_numbers : List ℤ → (n : ℕ) → Filled
by_numbers [] n = Err (BadText n)
by_numbers (v ∷ ns) n = by_wanted (wanted symbol_format v) (suc (length ns)) n

abbrev pub by_bad : Option ℕ → List ℤ → (n : ℕ) → Filled
by_bad (Some p) ns n = Err (BadText p)
by_bad None ns n = by_numbers ns n

unfoldable pub sheet_reading : Bool → List ℕ → Filled
sheet_reading longer t =
    pick (longer || ltb text_most (length t)) (Err (BadText text_most))
    (by_bad (first_bad (pieces t)) (numbers (pieces t)) (length t))

abbrev pub table_of : List ℤ → List ℤ
table_of ns = take (3 * count_in ns + 1) (drop 1 ns)

abbrev pub pairs_of : List ℤ → List ℤ
pairs_of ns = drop (3 * count_in ns + 2) ns

-- ---- the lines

abbrev pub lines_lent : ℕ
lines_lent = 1024

unfoldable pub unused : List ℤ
unused = replicate letters_lent (pos 0)

abbrev pub pair_line : (v : ℕ) (t p letters : List ℤ) → ℕ → List ℕ
pair_line v t p letters i =
    said (answer_at v t p work_length letters i) (found_word v t (of_list (matrix_a p i)) (of_list (matrix_b p i)))

unfoldable pub pair_lines : (v : ℕ) (t p letters : List ℤ) → ℕ → List ℕ
pair_lines v t p letters zero = []
pair_lines v t p letters (suc i) = pair_lines v t p letters i ++ pair_line v t p letters i

abbrev pub sheet_verdict : List ℤ → Checked
sheet_verdict ns = verdict (sheet_checks (count_in ns) (table_of ns) (pairs_of ns) work_length lines_lent)

abbrev pub lines_if : Checked → List ℕ → List ℕ
lines_if (Ok tt) ls = ls
lines_if (Err f) ls = refusal_line f

unfoldable pub printed : List ℤ → List ℕ
printed ns =
    lines_if (sheet_verdict ns) (pair_lines (count_in ns) (table_of ns) (pairs_of ns) unused (pairs_in (pairs_of ns)))

unfoldable pub sheet_bytes : Bool → List ℕ → List ℕ
sheet_bytes longer t = by_reading printed refusal_line (sheet_reading longer t) (numbers (pieces t))

-- ---- what it means

pub record SheetPrinted (ns : List ℤ) (bytes : List ℕ) : Type 0 where
  pub answer : (letters : List ℤ) → length letters ≡ letters_lent
      → bytes
      ≡ lines_if (sheet_verdict ns) (pair_lines (count_in ns) (table_of ns) (pairs_of ns) letters (pairs_in (pairs_of ns)))
  pub claims : sheet_verdict ns ≡ Ok tt
      → (w : List ℕ) (letters : List ℤ) → length w ≡ work_length → length letters ≡ letters_lent
      → (i : ℕ) → i < pairs_in (pairs_of ns)
      → LineMeans (count_in ns) (table_of ns) (pairs_of ns) w letters
      (space_at (count_in ns) (table_of ns) (pairs_of ns) (length w) letters (pairs_in (pairs_of ns))).letters i

abbrev pub SheetPrintMeans : (longer : Bool) (t bytes : List ℕ) → Type 0
SheetPrintMeans longer t bytes =
    (k : ℕ) → sheet_reading longer t ≡ Ok k → SheetPrinted (take k (numbers (pieces t))) bytes
