-- The lines.
--     yes_line, no_line, refused_line     the line for an answer of `same`
--     rest_part                           the rest of a list, as the code lends it
--     same_for_lem                        the line for two symbols
--     print_means                         what the bytes mean
-- Assumes nothing.
use Rattle.std.specs.Prelude.{Ok, Err}
use mathlib.Core.Path.{◌≡◌, sym, ap, ◌∙◌}
use mathlib.Core.Bool.{true, false, Bool}
use mathlib.Core.List.{List, [], ◌∷◌}
use Prim.Native.Nat.{ℕ, ◌-◌, ◌≤◌}
use lib.IntN.{ℤ}
use lib.ListN.{length, take, drop, length-drop}
use lib.Seq.{take-length}
use Rattle.call.specs.declared.refusal.Refusal.{Refusal}
use Rattle.call.specs.Space.{work_length}
use Rattle.call.specs.Call.{Asks, Clears, length_check}
use Rattle.call.specs.Inner.Fills.{Fills, decided}
use Rattle.call.specs.Refusal.{Decision}
use Rattle.text.specs.Line.{spaced, line, refusal_line}
use Rattle.symbol.specs.Check.{symbol_check}
use Rattle.pairing.proofs.Both.{with_space}
use Rattle.containment.specs.Group.{same_tables}
use Rattle.containment.proofs.Means.{decides_same, decides_different}
use Rattle.subgroup_texts.specs.SameAnswer.{same_line, table_in, two_lines, same_bytes, SamePrintMeans}
use Rattle.subgroup_texts.specs.Inner.TwoTexts.{same_for}
use Rattle.text.specs.Reading.{count_in}

pub yes_line : (a : Decision) → a ≡ Ok true → 115 ∷ 97 ∷ 109 ∷ 101 ∷ 10 ∷ [] ≡ same_line a
unfolding line spaced
yes_line a e = sym (ap same_line e)

pub no_line : (a : Decision) → a ≡ Ok false → 100 ∷ 105 ∷ 102 ∷ 102 ∷ 101 ∷ 114 ∷ 101 ∷ 110 ∷ 116 ∷ 10 ∷ [] ≡ same_line a
unfolding line spaced
no_line a e = sym (ap same_line e)

pub refused_line : (a : Decision) (f : Refusal) → a ≡ Err f → refusal_line f ≡ same_line a
refused_line a f e = sym (ap same_line e)

pub rest_part : {A : Type 0} (k : ℕ) (l : List A) → take (length l - k) (drop k l) ≡ drop k l
rest_part {A} k l = ap (λ (n : ℕ). take n (drop k l)) (sym (length-drop k l)) ∙ take-length (drop k l)

-- in a work space that is long enough
pub same_for_lem : (v : ℕ) (t : List ℤ) (n : ℕ) (u : List ℤ) (w : List ℕ) {a : Decision} {w' : List ℕ}
    → Fills (Asks (symbol_check v t) ∷ Asks (symbol_check n u) ∷ Asks (length_check work_length (length w)) ∷ Clears w w' ∷ []) (decided (same_tables v t n u)) a
    → work_length ≤ length w → same_line a ≡ same_line (same_for v t n u)
same_for_lem v t n u w is l =
    ap same_line (is.answer ∙ ap (decided (same_tables v t n u)) (with_space (symbol_check v t) (symbol_check n u) (length w) l))

pub print_means : (longer : Bool) (t bytes : List ℕ) → bytes ≡ same_bytes longer t → SamePrintMeans longer t bytes
unfolding same_bytes
print_means longer t bytes e ns ms g = record {
  line = e ∙ ap two_lines g;
  same = decides_same (count_in ns) (table_in ns) (count_in ms) (table_in ms);
  different = decides_different (count_in ns) (table_in ns) (count_in ms) (table_in ms);
}
