-- How two symbols' texts are read, for the programs that do so, and what is then asked of the symbols.
--
--   symbols_by r ns ms   what a text gives, where the reading gives r and leaves ns and ms in the two slices
--   CountsWithin k j     each text has numbers, k and j of them, and they fit
--   ReadsTwo ..          the reading gives what `two_symbols` says, with the numbers that it leaves in the slices
--   same_for v t n u     the answer of `same` for two symbols
--   lines_for_two a v t n u  the lines for two symbols, by what is asked
--   lines_of_two, bytes_of_two  the same for what a text gives, and for a text
use Rattle.std.specs.Prelude.{◌≡◌, Bool, List, ℕ, ◌≤◌, ℤ, take, Ok, Err}
use Rattle.call.specs.Refusal.{◌or_else◌, Decision, Answer}
use Rattle.call.specs.Inner.Fills.{decided}
use Rattle.symbol.specs.Check.{symbol_check}
use Rattle.containment.specs.Group.{same_tables}
use Rattle.containment.specs.TwoSymbols.{common_s, common_r}
use Rattle.symbol_texts.specs.Pair.{pair_lines_by}
use Rattle.subgroup_texts.specs.SameAnswer.{same_line, TwoSymbols, two, none, two_symbols, two_lines, same_bytes}
use Rattle.subgroup_texts.specs.IntersectionAnswer.{intersection_for, intersection_lines, intersection_bytes}
use Rattle.subgroup_texts.specs.declared.two_texts.Asked.{Asked}
use Rattle.subgroup_texts.specs.declared.two_texts.Asked.TheVariants as asked

abbrev pub symbols_by : (Answer (ℕ × ℕ)) → (ns ms : List ℤ) → TwoSymbols
symbols_by (Err f) ns ms = none f
symbols_by (Ok (k, j)) ns ms = two (take k ns) (take j ms)

pub record CountsWithin (k j : ℕ) : Type 0 where
  pub some : 1 ≤ k
  pub most : k ≤ 3071
  pub some' : 1 ≤ j
  pub most' : j ≤ 3071

pub record ReadsTwo (longer : Bool) (t : List ℕ) (r : (Answer (ℕ × ℕ))) (ns ms : List ℤ) : Type 0 where
  pub gives : symbols_by r ns ms ≡ two_symbols longer t
  pub within : (k j : ℕ) → r ≡ Ok (k, j) → CountsWithin k j

-- ---- what is asked of two symbols

abbrev pub same_for : (v : ℕ) (t : List ℤ) (n : ℕ) (u : List ℤ) → Decision
same_for v t n u = decided (same_tables v t n u) (symbol_check v t or_else symbol_check n u)

abbrev pub lines_for_two : Asked → (v : ℕ) (t : List ℤ) (n : ℕ) (u : List ℤ) → List ℕ
lines_for_two asked.Same v t n u = same_line (same_for v t n u)
lines_for_two asked.Intersection v t n u = pair_lines_by (intersection_for v t n u) (common_s v t n u) (common_r v t n u)

abbrev pub lines_of_two : Asked → TwoSymbols → List ℕ
lines_of_two asked.Same s = two_lines s
lines_of_two asked.Intersection s = intersection_lines s

abbrev pub bytes_of_two : Asked → Bool → List ℕ → List ℕ
bytes_of_two asked.Same longer t = same_bytes longer t
bytes_of_two asked.Intersection longer t = intersection_bytes longer t
