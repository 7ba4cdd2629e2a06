-- `figures::mark_cycle` meets its contract. The loop's invariant, `Walk`: so many steps of the cycle have been listed, and y is the
-- next point. The measure is the room for more points.
-- Assumes nothing.
use Prim.Native.Nat.{◌-◌}
use Rattle.figures.proofs.Scan.{Walk}
use Rattle.figures.proofs.mark_cycle.Given as goal

abbrev pub invariant-loop-y : goal.invariant-loop-y
invariant-loop-y l = Walk l.n l.x l.c0 l.initial.w l.w l.c l.y

abbrev pub decreases-loop-y : goal.decreases-loop-y
decreases-loop-y l = l.n - l.c
