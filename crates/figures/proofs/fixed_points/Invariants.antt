-- `figures::fixed_points` meets its contract. The loop's invariant: the count is that of the places below i.
-- Assumes nothing.
use mathlib.Core.Path.{◌≡◌}
use lib.ListN.{length}
use Rattle.figures.specs.Cusps.{is_fixed}
use Rattle.basics.specs.Count.{those}
use Rattle.call.specs.Space.{entries}
use Rattle.figures.proofs.fixed_points.Given as goal

abbrev pub invariant-loop-i : goal.invariant-loop-i
invariant-loop-i l = l.count ≡ length (those (is_fixed (entries l.off l.n l.w)) l.i)
