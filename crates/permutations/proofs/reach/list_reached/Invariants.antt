-- `list_reached` marks what is reached from 0. The loop's invariant, `Run`: the queue holds what i visits of the numbering rule list, and
-- the marks are at its points. It ends, since the queue's points differ and there are only so many. Assumes nothing.
use Prim.Native.Nat.{◌-◌}
use lib.ListN.{length}
use Rattle.permutations.proofs.Queue.{Run}
use Rattle.permutations.proofs.reach.list_reached.Given as goal

abbrev pub invariant-loop-i : goal.invariant-loop-i
invariant-loop-i l = Run l.s l.r l.i l.n l.reached.marks l.reached.queue

abbrev pub decreases-loop-i : goal.decreases-loop-i
decreases-loop-i l = length l.s - l.i
