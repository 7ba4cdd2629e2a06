-- The loop's invariant: no vertex entry below i is too large.
use Rattle.basics.proofs.Count.{Clear}
use Rattle.drawing.specs.Answer.{too_large_at}
use Rattle.drawing.proofs.check_entries.Given as goal

abbrev pub invariant-loop-i : goal.invariant-loop-i
invariant-loop-i l = Clear (too_large_at l.t) l.i
