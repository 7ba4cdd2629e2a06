-- The cycles that begin below x are counted.
use Rattle.std.proofs.Common.{◌≡◌, ◌≤◌, ◌*◌, length}
use Rattle.cycle_writing.specs.Inner.Short.{bytes_below}
use Rattle.cycle_writing.proofs.length.cycles_length.Given as goal

abbrev pub invariant-loop-x : goal.invariant-loop-x
invariant-loop-x l = record { counted : l.k ≡ length (bytes_below l.t l.x); most : l.k ≤ 16 * l.x }
