-- The cycles that begin below x stand in the result space.
use Rattle.std.proofs.Common.{◌≡◌, length}
use Rattle.decimal.specs.Writing.{Puts}
use Rattle.cycle_writing.specs.Inner.Short.{bytes_below}
use Rattle.cycle_writing.proofs.bytes.put_cycles.Given as goal

abbrev pub invariant-loop-x : goal.invariant-loop-x
invariant-loop-x l = record { stand : Puts (bytes_below l.t l.x) l.at l.end l.initial.out l.out; long : length l.out ≡ length l.initial.out }
