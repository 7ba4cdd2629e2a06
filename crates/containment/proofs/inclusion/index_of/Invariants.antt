-- `index_of` counts the odd sides. The loop's invariant: those of the first i are counted. Assumes nothing.
use borrow.Author.Rules.{rules}
use mathlib.Core.Path.{◌≡◌, ◌∙◌, ap}
use Prim.Native.Nat.{◌+◌, ◌-◌, ◌≤◌}
use native.Mathlib.Omega.{arith}
use Rattle.basics.specs.Count.{count}
use Rattle.basics.proofs.Count.{count_le}
use Rattle.polygon.specs.Cut.{corners}
use Rattle.polygon.specs.Step.{odd_at}
use Rattle.containment.proofs.Corners.{count_more}
use Rattle.containment.proofs.inclusion.index_of.Given as goal

abbrev pub invariant-loop-i : goal.invariant-loop-i
invariant-loop-i l = (l.i ≤ l.v + 1) × (l.k ≡ corners l.v + count (odd_at l.v l.t) l.i)
