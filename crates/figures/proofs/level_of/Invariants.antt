-- `figures::level_of` meets its contract. The loop's invariant, `Levelling`: m and what is left have the same least common multiple
-- as the whole, and m fits.
-- Assumes nothing.
use Rattle.call.specs.Space.{entries}
use Rattle.figures.proofs.Scan.{Levelling}
use Rattle.figures.proofs.level_of.Given as goal

abbrev pub invariant-loop-x : goal.invariant-loop-x
invariant-loop-x l = Levelling (entries l.off l.n l.w) l.m l.x-index
