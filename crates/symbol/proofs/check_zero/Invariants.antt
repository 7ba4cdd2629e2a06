-- The loop's invariant: no vertex below i is 0/1.
use Rattle.basics.proofs.Count.{Clear}
use Rattle.symbol.specs.Check.{is_zero}
use Rattle.symbol.proofs.check_zero.Given as goal

abbrev pub invariant-loop-i : goal.invariant-loop-i
invariant-loop-i l = Clear (is_zero l.t) l.i
