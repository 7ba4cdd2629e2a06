-- `figures::gcd_of` meets its contract. The loop's invariant: the greatest common divisor stays the same. The measure is the remainder.
-- Assumes nothing.
use mathlib.Core.Path.{◌≡◌}
use Rattle.figures.specs.LevelOf.{gcd}
use Rattle.figures.proofs.gcd_of.Given as goal

abbrev pub invariant-loop-y : goal.invariant-loop-y
invariant-loop-y l = gcd l.x l.y ≡ gcd l.a l.b

abbrev pub decreases-loop-y : goal.decreases-loop-y
decreases-loop-y l = l.y
