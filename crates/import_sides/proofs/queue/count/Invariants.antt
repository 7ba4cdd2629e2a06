-- `count` follows the links and counts (`Counting`). It ends, since at most 1024 cells are linked. Assumes nothing.
use native.Mathlib.Omega.{arith}
use Prim.Native.Nat.{◌-◌}
use Rattle.import_sides.proofs.Laying.{Counting, count_start, count_next, count_end}
use Rattle.import_sides.proofs.queue.count.Given as goal

abbrev pub invariant-loop-at : goal.invariant-loop-at
invariant-loop-at l = Counting l.w l.l l.at l.i

abbrev pub decreases-loop-at : goal.decreases-loop-at
decreases-loop-at l = 1024 - l.i
