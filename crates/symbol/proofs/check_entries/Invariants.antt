-- The loop's invariant: the entries below i are in range.
use Rattle.basics.proofs.Count.{Clear}
use Rattle.symbol.specs.Check.{out_of_range}
use Rattle.symbol.proofs.check_entries.Given as goal

abbrev pub invariant-loop-i : goal.invariant-loop-i
invariant-loop-i l = Clear (out_of_range l.t) l.i
