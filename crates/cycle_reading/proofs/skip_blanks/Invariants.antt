-- Before `at` there are blanks only.
use Rattle.cycle_reading.specs.Inner.Front.{FrontSame}
use Rattle.cycle_reading.proofs.skip_blanks.Given as goal

abbrev pub invariant-loop-at : goal.invariant-loop-at
invariant-loop-at l = FrontSame l.text l.at
