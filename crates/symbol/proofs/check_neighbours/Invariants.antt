-- The loop's invariant: the ends of the sides below i are neighbours.
use Rattle.basics.proofs.Count.{Clear}
use Rattle.symbol.specs.Check.{apart}
use Rattle.symbol.proofs.check_neighbours.Given as goal

abbrev pub invariant-loop-i : goal.invariant-loop-i
invariant-loop-i l = Clear (apart l.v l.t) l.i
