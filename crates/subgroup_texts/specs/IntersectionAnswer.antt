-- WHAT THE JOB `intersection` WRITES, byte for byte. The text has two symbols' texts, one after the other, and is read
-- as the job `same` reads it (`two_symbols`).
--
--   intersection_for v t v' t'    the answer for two symbols: the first one's refusals, then the second one's, then 24;
--                             or the number of points. The program's own spaces have room for 3,066
--   of_both common ns ms       the table `common` of the intersection of the two symbols that the numbers ns and ms give
--   intersection_made ns ms   the answer for these symbols
--   intersection_lines a      the lines for what a text gives
--   intersection_bytes longer t   the bytes for a text
--   IntersectionPrinted       what the bytes mean where tables are printed: both texts are symbols, the tables are
--                             those of the right cosets of the matrices that belong to both subgroups, and the job
--                             `import` reads the bytes as this pair of tables
--   IntersectionPrintMeans    that holds for every text whose numbers give tables
use Rattle.std.specs.Prelude.{◌≡◌, Bool, List, ℕ, ℤ, length, Ok}
use Rattle.call.specs.Refusal.{◌or_else◌, Filled}
use Rattle.call.specs.Inner.Fills.{made_if}
use Rattle.symbol.specs.Check.{symbol_check}
use Rattle.text.specs.Line.{refusal_line}
use Rattle.containment.specs.TwoSymbols.{common_cosets, common_s, common_r}
use Rattle.intersections.specs.Answer.{too_many, Intersected}
use Rattle.symbol_texts.specs.Pair.{PairReadBack, pair_lines_by}
use Rattle.subgroup_texts.specs.SameAnswer.{table_in, TwoSymbols, two, none, two_symbols}
use Rattle.text.specs.Reading.{count_in}

abbrev pub intersection_for : (v : ℕ) (t : List ℤ) (v' : ℕ) (t' : List ℤ) → Filled
intersection_for v t v' t' =
    let n = length (common_cosets v t v' t') in
    made_if n (symbol_check v t or_else symbol_check v' t' or_else too_many n)

abbrev pub of_both : ((v : ℕ) (t : List ℤ) (v' : ℕ) (t' : List ℤ) → List ℕ) → (ns ms : List ℤ) → List ℕ
of_both common ns ms = common (count_in ns) (table_in ns) (count_in ms) (table_in ms)

abbrev pub intersection_made : (ns ms : List ℤ) → Filled
intersection_made ns ms = intersection_for (count_in ns) (table_in ns) (count_in ms) (table_in ms)

abbrev pub intersection_lines : TwoSymbols → List ℕ
intersection_lines (none f) = refusal_line f
intersection_lines (two ns ms) = pair_lines_by (intersection_made ns ms) (of_both common_s ns ms) (of_both common_r ns ms)

unfoldable pub intersection_bytes : Bool → List ℕ → List ℕ
intersection_bytes longer t = intersection_lines (two_symbols longer t)

-- ---- what it means

pub record IntersectionPrinted (ns ms : List ℤ) (n : ℕ) (bytes : List ℕ) : Type 0 where
  pub common : Intersected (count_in ns) (table_in ns) (count_in ms) (table_in ms) n
  pub read_back : PairReadBack (of_both common_s ns ms) (of_both common_r ns ms) bytes

abbrev pub IntersectionPrintMeans : Bool → List ℕ → (bytes : List ℕ) → Type 0
IntersectionPrintMeans longer t bytes =
    (ns ms : List ℤ) (n : ℕ) → two_symbols longer t ≡ two ns ms → intersection_made ns ms ≡ Ok n
    → IntersectionPrinted ns ms n bytes
