-- The loop's invariant, `Mid`: pushing from the present state gives what pushing from the first one does. Each triangle takes a vertex off
-- the stack, so it ends.
use Rattle.polygon.proofs.Scanning.{Mid}
use Rattle.polygon.proofs.cutting.settle.Given as goal

abbrev pub invariant-loop-top : goal.invariant-loop-top
invariant-loop-top l = Mid l.t l.v l.initial.w l.i l.fn.before.n l.fn.before.m l.w l.n l.m l.h

abbrev pub decreases-loop-top : goal.decreases-loop-top
decreases-loop-top l = l.n
