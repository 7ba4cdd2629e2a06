-- WHAT THE JOB `tower` WRITES, byte for byte. The text has the number of entries and behind it the tower's table, any
-- number of numbers.
--
--   tower_line r                 the line for an answer of `tower`: `passes`, or the refusal's
--   tower_reading longer t       what a text gives, in this order: 19 for its length, for its first piece that is no
--                                number, for no number at all (the text's length), for a first number that is negative
--                                and so no number of entries (the offset where it begins); or all its numbers
--   entries_in ns, behind_count ns in the numbers ns of a text, how many entries there are, and the table
--   tower_answer ns              the answer of the tower. The program's work space is long enough
--   tower_bytes longer t         the bytes for a text
--   TowerPrinted, TowerPrintMeans    where a text gives numbers, the bytes are the line of the answer, and of its
--                                number and place holds what they say
use Rattle.std.specs.Prelude.{Ok, Err, Option, None, Some}
use Rattle.std.specs.Prelude.{◌≡◌, Bool, ◌||◌, List, [], ◌∷◌, ℕ, suc, ltb, ℤ, pos, negsuc, nat_abs, length, take, drop}
use Rattle.matrix.specs.Matrix.{nth}
use Rattle.basics.specs.Choice.{pick}
use Rattle.call.specs.Refusal.{answer_number, answer_place, Checked, Filled}
use Rattle.call.specs.declared.refusal.Refusal.TheVariants.{BadText}
use Rattle.call.specs.Space.{work_length}
use Rattle.text.specs.Piece.{pieces, first_bad, numbers, place_at}
use Rattle.text.specs.Reading.{text_most, by_reading}
use Rattle.decimal.specs.Ascii.{ascii}
use Rattle.text.specs.Line.{line, refusal_line}
use Rattle.towers.specs.Meaning.{TowerSays}
use Rattle.towers.specs.Answer.{tower_checks}

abbrev pub tower_line : Checked → List ℕ
tower_line (Ok tt) = line (ascii "passes") []
tower_line (Err f) = refusal_line f

-- ---- the text

-- by the first number, which begins at `at`, where there are k
abbrev pub counted_from : ℤ → (at k : ℕ) → Filled
counted_from (pos c) at k = Ok k
counted_from (negsuc c) at k = Err (BadText at)

-- by all numbers of a text of n bytes
unfoldable pub entries_from : List ℤ → (at n : ℕ) → Filled
entries_from [] at n = Err (BadText n)
entries_from (c ∷ ns) at n = counted_from c at (suc (length ns))

abbrev pub numbers_unless : Option ℕ → List ℤ → (at n : ℕ) → Filled
numbers_unless (Some p) ns at n = Err (BadText p)
numbers_unless None ns at n = entries_from ns at n

unfoldable pub tower_reading : Bool → List ℕ → Filled
tower_reading longer t =
    pick (longer || ltb text_most (length t)) (Err (BadText text_most))
    (numbers_unless (first_bad (pieces t)) (numbers (pieces t)) (place_at (pieces t) 0) (length t))

-- ---- the bytes

abbrev pub entries_in : List ℤ → ℕ
entries_in ns = nat_abs (nth ns 0)

abbrev pub behind_count : List ℤ → List ℤ
behind_count ns = drop 1 ns

abbrev pub tower_answer : List ℤ → Checked
tower_answer ns = tower_checks (entries_in ns) (behind_count ns)

unfoldable pub tower_bytes : Bool → List ℕ → List ℕ
tower_bytes longer t =
    by_reading (λ ns. tower_line (tower_answer ns)) refusal_line (tower_reading longer t) (numbers (pieces t))

-- ---- what it means

pub record TowerPrinted (ns : List ℤ) (bytes : List ℕ) : Type 0 where
  pub line : bytes ≡ tower_line (tower_answer ns)
  pub says : let a = tower_answer ns in
      TowerSays (entries_in ns) (behind_count ns) work_length (answer_number a) (answer_place a)

abbrev pub TowerPrintMeans : Bool → List ℕ → (bytes : List ℕ) → Type 0
TowerPrintMeans longer t bytes =
    (k : ℕ) → tower_reading longer t ≡ Ok k → TowerPrinted (take k (numbers (pieces t))) bytes
