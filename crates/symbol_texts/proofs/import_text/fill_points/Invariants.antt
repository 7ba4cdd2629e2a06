-- `fill_points` meets its contract: after i turns the first i entries stand. Assumes nothing.
use mathlib.Core.Path.{◌≡◌}
use mathlib.Core.List.{map}
use lib.ListN.{length, take}
use Rattle.symbol_texts.specs.ImportAnswer.{table_point}
use Rattle.symbol_texts.specs.Inner.ImportSpaces.{filled}
use Rattle.symbol_texts.proofs.import_text.fill_points.Given as goal

abbrev pub invariant-loop-i : goal.invariant-loop-i
invariant-loop-i l = record {
  points : l.out ≡ filled (map table_point (take l.i l.numbers)) l.initial.out;
  same : length l.out ≡ length l.initial.out;
}
