-- WHAT THE JOB `same` WRITES, byte for byte (docs/CONVENTIONS.md, 10.8). The text has two symbols' texts, one after the
-- other.
--
--   same_line a                  the line for an answer of `same`: `same`, `different`, or the refusal's
--   cut_at t                      where the second symbol's text begins
--   first_text, second_text      the two texts
--   first_reading, second_reading  how they are read; each is lent 3,071 numbers
--   table_in ns                  the symbol's table in the numbers ns of its text
--   TwoSymbols                   what a text gives: a refusal; or two symbols, by the numbers of their texts
--   in_whole at f                refusal 19 of the second text, its place counted over the whole text
--   by_second, by_first          what a text gives, by the readings
--   two_symbols longer t         what a text gives: refusal 19 of the first text goes before that of the second; a
--                                first v that is out of range is refused with 1, and then no second text is looked for
--   same_answer ns ms            the answer for two symbols: the first one's refusals, then the second one's, then yes
--                                or no
--   two_lines, same_bytes longer t the bytes for what a text gives, and for a text
--   SamePrinted, SamePrintMeans  where there are two symbols' numbers, the bytes are the line of the answer, yes means
--                                that they are the same, and no that they are different
use Rattle.std.specs.Prelude.{◌≡◌, Bool, true, false, ◌||◌, List, [], ℕ, ◌+◌, ltb, ℤ, length, take, drop, Ok, Err}
use Rattle.basics.specs.Choice.{pick}
use Rattle.call.specs.Refusal.{◌or_else◌, Decision, Filled, refusal_place}
use Rattle.call.specs.declared.refusal.Refusal.TheVariants.{BadText, BadVertexCount}
use Rattle.call.specs.declared.refusal.Refusal.{Refusal}
use Rattle.call.specs.Inner.Fills.{decided}
use Rattle.text.specs.Piece.{pieces, numbers}
use Rattle.text.specs.Reading.{text_most, reading_of, symbol_format, count_in}
use Rattle.decimal.specs.Ascii.{ascii}
use Rattle.text.specs.Line.{line, refusal_line}
use Rattle.text.specs.Part.{part_end}
use Rattle.symbol.specs.Check.{symbol_check}
use Rattle.containment.specs.Group.{same_tables}
use Rattle.containment.specs.Same.{Same, Different}

abbrev pub same_line : Decision → List ℕ
same_line (Ok true) = line (ascii "same") []
same_line (Ok false) = line (ascii "different") []
same_line (Err f) = refusal_line f

-- ---- the two texts

abbrev pub cut_at : List ℕ → ℕ
cut_at t = part_end symbol_format t

abbrev pub first_text : List ℕ → List ℕ
first_text t = take (cut_at t) t

abbrev pub second_text : List ℕ → List ℕ
second_text t = drop (cut_at t) t

abbrev pub first_reading : List ℕ → Filled
first_reading t = reading_of symbol_format (first_text t) 3071

abbrev pub second_reading : List ℕ → Filled
second_reading t = reading_of symbol_format (second_text t) 3071

abbrev pub table_in : List ℤ → List ℤ
table_in ns = drop 1 ns

-- ---- what a text gives

pub data TwoSymbols : Type 0 where
  two : (ns ms : List ℤ) → TwoSymbols
  none : Refusal → TwoSymbols

-- the second text holds no more than 3,071 numbers, so that 19 is its only refusal
abbrev pub in_whole : ℕ → Refusal → Refusal
in_whole at f = BadText (at + (refusal_place f))

abbrev pub by_second : (at : ℕ) → List ℤ → Filled → List ℤ → TwoSymbols
by_second at ns (Err f) ms = none (in_whole at f)
by_second at ns (Ok j) ms = two ns (take j ms)

abbrev pub by_first : (t : List ℕ) → Filled → TwoSymbols
by_first t (Err f) = none f
by_first t (Ok k) =
    pick (ltb k 2) (none BadVertexCount)
    (by_second (cut_at t) (take k (numbers (pieces (first_text t)))) (second_reading t) (numbers (pieces (second_text t))))

unfoldable pub two_symbols : Bool → List ℕ → TwoSymbols
two_symbols longer t =
    pick (longer || ltb text_most (length t)) (none (BadText text_most)) (by_first t (first_reading t))

abbrev pub same_answer : (ns ms : List ℤ) → Decision
same_answer ns ms =
    decided (same_tables (count_in ns) (table_in ns) (count_in ms) (table_in ms))
    (symbol_check (count_in ns) (table_in ns) or_else symbol_check (count_in ms) (table_in ms))

abbrev pub two_lines : TwoSymbols → List ℕ
two_lines (none f) = refusal_line f
two_lines (two ns ms) = same_line (same_answer ns ms)

unfoldable pub same_bytes : Bool → List ℕ → List ℕ
same_bytes longer t = two_lines (two_symbols longer t)

-- ---- what it means

pub record SamePrinted (ns ms : List ℤ) (bytes : List ℕ) : Type 0 where
  pub line : bytes ≡ same_line (same_answer ns ms)
  pub same : same_answer ns ms ≡ Ok true → Same (count_in ns) (table_in ns) (count_in ms) (table_in ms)
  pub different : same_answer ns ms ≡ Ok false → Different (count_in ns) (table_in ns) (count_in ms) (table_in ms)

abbrev pub SamePrintMeans : Bool → List ℕ → (bytes : List ℕ) → Type 0
SamePrintMeans longer t bytes = (ns ms : List ℤ) → two_symbols longer t ≡ two ns ms → SamePrinted ns ms bytes
