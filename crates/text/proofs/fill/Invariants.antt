-- `text::fill` meets its contract: the first `i` entries are the first `i` numbers, and the others are as they were.
-- Assumes nothing.
use mathlib.Core.Path.{◌≡◌}
use mathlib.Core.List.{◌++◌}
use lib.ListN.{length, take, drop}
use Rattle.text.specs.Piece.{pieces, numbers}
use Rattle.text.proofs.Walks.{Walked}
use Rattle.text.proofs.fill.Given as goal

abbrev pub invariant-loop-i : goal.invariant-loop-i
invariant-loop-i l = record {
  walked : Walked l.text l.i l.from;
  filled : l.out ≡ take l.i (numbers (pieces l.text)) ++ drop l.i l.initial.out;
  same : length l.out ≡ length l.initial.out;
}
