-- The loop's invariant: the generators of the sides below i stand in front.
use Rattle.pairing.specs.Inner.Work.{RowsTo}
use Rattle.pairing.proofs.generator.list_all.Given as goal

abbrev pub invariant-loop-i : goal.invariant-loop-i
invariant-loop-i l = RowsTo l.v l.t l.i l.n l.initial.out l.out
