-- What the bytes of an intersection mean (`print_means`). Assumes nothing.
use mathlib.Core.Path.{◌≡◌, ap, ◌∙◌}
use mathlib.Core.Bool.{Bool, false}
use mathlib.Core.List.{List}
use Prim.Native.Nat.{ℕ}
use Rattle.call.specs.Refusal.{Filled}
use Rattle.containment.specs.TwoSymbols.{common_s, common_r}
use Rattle.symbol_texts.specs.ImportAnswer.{request_of}
use Rattle.symbol_texts.specs.Pair.{pair_text, pair_lines_by}
use Rattle.symbol_texts.proofs.PairReadBack.{pair_read_back}
use Rattle.subgroup_texts.specs.SameAnswer.{table_in}
use Rattle.text.specs.Reading.{count_in}
use Rattle.subgroup_texts.specs.IntersectionAnswer.{of_both, intersection_lines, intersection_bytes, IntersectionPrintMeans}
use Rattle.subgroup_texts.proofs.IntersectionPoints.{intersected, made_fits}

pub print_means : (longer : Bool) (t bytes : List ℕ) → bytes ≡ intersection_bytes longer t → IntersectionPrintMeans longer t bytes
unfolding intersection_bytes
print_means longer t bytes e ns ms n g made =
    let s = of_both common_s ns ms in
    let r = of_both common_r ns ms in
    let text : bytes ≡ pair_text s r = e ∙ ap intersection_lines g ∙ ap (λ (x : Filled). pair_lines_by x s r) made in
    record {
      common = intersected (count_in ns) (table_in ns) (count_in ms) (table_in ms) n made;
      read_back = ap (request_of false) text ∙ pair_read_back s r (made_fits (count_in ns) (table_in ns) (count_in ms) (table_in ms) n made);
    }
