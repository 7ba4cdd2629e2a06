-- `enter_ends` enters the end and the width of each place's cusp. The loop's invariant is `Ending`. Assumes nothing.
use Rattle.figures.specs.Inner.Scan.{held_t}
use Rattle.same_coset.proofs.ByPlace.{Ending}
use Rattle.same_coset.proofs.tables.enter_ends.Given as goal

abbrev pub invariant-loop-y : goal.invariant-loop-y
invariant-loop-y l = Ending (held_t l.n l.initial.w) l.n l.initial.w l.w l.y
