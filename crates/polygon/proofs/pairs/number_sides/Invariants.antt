-- The loop's invariant: the sides below i have their numbers.
use Rattle.polygon.specs.Inner.Space.{Above}
use Rattle.polygon.specs.Inner.Partners.{NumberedTo}
use Rattle.polygon.proofs.pairs.number_sides.Given as goal

abbrev pub invariant-loop-i : goal.invariant-loop-i
invariant-loop-i l = Above l.initial.w l.w × NumberedTo l.t l.v l.w l.i l.n
