-- The run goes on at `i` with what `value` says so far.
use Rattle.std.proofs.Common.{◌≡◌, ◌+◌, ◌≤◌, min, drop}
use Rattle.cycle_notation.specs.Piece.{run_value}
use Rattle.cycle_reading.specs.Inner.Hand.{digit_run}
use Rattle.cycle_reading.proofs.pieces.digits_at.Given as goal

abbrev pub invariant-loop-i : goal.invariant-loop-i
invariant-loop-i l = record {
  low : l.value ≤ 3067;
  run : l.from + digit_run (drop l.from l.text) ≡ l.i + digit_run (drop l.i l.text);
  said : min (run_value 0 (drop l.from l.text)) 3067 ≡ min (run_value l.value (drop l.i l.text)) 3067;
}
