-- The loop's invariant: before side i the box is that of the sides so far, and out begins with their rows.
use mathlib.Core.Path.{◌≡◌}
use Rattle.drawing.specs.Bounding.{box_to}
use Rattle.drawing.specs.Inner.Ready.{DrawnTo}
use Rattle.drawing.proofs.draw_sides.Given as goal

abbrev pub invariant-loop-i : goal.invariant-loop-i
invariant-loop-i l = (l.bounds ≡ box_to l.v l.t l.i) × DrawnTo l.v l.t l.i l.initial.out l.out
