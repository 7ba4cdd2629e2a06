-- `put_points` meets its contract: after as many turns the first points stand. Assumes nothing.
use mathlib.Core.List.{map}
use Rattle.text.specs.Line.{natural}
use Rattle.text.proofs.Spacing.{Spaced}
use Rattle.symbol_texts.proofs.pair_text.put_points.Given as goal

abbrev pub invariant-loop-x : goal.invariant-loop-x
invariant-loop-x l = Spaced 5 (map natural l.xs) l.at l.x-index l.end l.initial.out l.out
