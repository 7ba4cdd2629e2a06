-- The loop's invariant: the tables hold what the sides below i have shown.
use Rattle.pairing.specs.Inner.Work.{PairedTo}
use Rattle.pairing.proofs.partner.pair_sides.Given as goal

abbrev pub invariant-loop-i : goal.invariant-loop-i
invariant-loop-i l = PairedTo l.v l.p l.i l.w
