-- `walk` follows the wide rule. The loop's invariant, `Between`: the cells hold the sides and the queue the points that wait. It ends, since
-- 3 (1024 - k) + (2 k - h) falls: h rises by one in each turn, and k by one in a split. Assumes nothing.
use mathlib.Core.Path.{◌≡◌, refl, ◌∙◌}
use native.Mathlib.Omega.{arith}
use Prim.Native.Nat.{◌+◌, ◌-◌, ◌*◌}
use lib.ListN.{length}
use Rattle.permutations.specs.Pair.{image}
use Rattle.import_rule.specs.Fixed.{by_q}
use Rattle.import_rule.specs.Inner.Placed.{start_placed}
use Rattle.import_sides.specs.Inner.Work.{halted, whole}
use Rattle.import_sides.proofs.State.{Between}
use Rattle.import_sides.proofs.Starting.{three, between_start}
use Rattle.import_sides.proofs.Whole.{turn_asks, turn_leaves, turn_stops, between_most, turn_less, row_of, all_ended, step_long}
use borrow.Author.Rules.{rules}
use Rattle.import_sides.proofs.queue.walk.Given as goal

abbrev pub invariant-loop-h : goal.invariant-loop-h
invariant-loop-h l = Between l.s l.r (start_placed (image l.s) (by_q (image l.s) (image l.r))) l.w l.h l.k × (length l.w ≡ length l.initial.w)

abbrev pub decreases-loop-h : goal.decreases-loop-h
decreases-loop-h l = 3 * (1024 - l.k) + (2 * l.k - l.h)
