-- The loop's invariant: the sides below i are paired.
use Rattle.basics.proofs.Count.{Clear}
use Rattle.symbol.specs.Check.{unpaired_in}
use Rattle.symbol.proofs.check_paired.Given as goal

abbrev pub invariant-loop-i : goal.invariant-loop-i
invariant-loop-i l = Clear (unpaired_in l.v l.p) l.i
