-- The loop's invariant: the labels of the sides below i are counted.
use Rattle.symbol.specs.Inner.Marks.{Tallied}
use Rattle.symbol.proofs.tally.Given as goal

abbrev pub invariant-loop-i : goal.invariant-loop-i
invariant-loop-i l = Tallied l.v l.p l.i l.marks
