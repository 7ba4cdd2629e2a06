-- What is left of the text from `at` on says what all of it does.
use Rattle.std.proofs.Common.{length, ◌-◌}
use Rattle.cycle_reading.specs.Inner.PartRun.{phase_of, ReadTo}
use Rattle.cycle_reading.proofs.Reader.read_part.Given as goal

abbrev pub invariant-loop-at : goal.invariant-loop-at
invariant-loop-at l = ReadTo l.self.semi l.self.n (phase_of l.fn.first) l.self.text.now l.from l.at l.part l.marks l.table

abbrev pub decreases-loop-at : goal.decreases-loop-at
decreases-loop-at l = length l.self.text.now - l.at
