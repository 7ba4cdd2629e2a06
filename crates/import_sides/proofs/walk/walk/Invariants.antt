-- `walk` follows the rule. The loop's invariant, `Walking`: the sides done and to do are those of the rule by points. It ends, since
-- 2(1024 - (d + k)) + k falls: a side moved lowers k, and a split raises d + k by one. Assumes nothing.
use Rattle.import_sides.proofs.Turn.{start_length}
use Rattle.import_sides.proofs.Begin.{walk_start, walk_whole}
use mathlib.Core.Path.{◌≡◌, refl, sym, ◌∙◌, ap}
use native.Mathlib.Omega.{arith}
use Rattle.import_sides.proofs.Walking.{Walking, walk_size, walk_top, walk_turn, walk_stop, walk_less, turned_length}
use Rattle.import_rule.specs.Inner.Placed.{start_placed}
use Rattle.import_sides.specs.Inner.Work.{halted, whole}
use Rattle.permutations.specs.Pair.{image}
use Rattle.import_rule.specs.Fixed.{by_q}
use Prim.Native.Nat.{◌+◌, ◌-◌, ◌*◌}
use lib.ListN.{length}
use borrow.Author.Rules.{rules}
use Rattle.import_sides.proofs.walk.walk.Given as goal

abbrev pub invariant-loop-k : goal.invariant-loop-k
invariant-loop-k l = Walking l.s l.r (start_placed (image l.s) (by_q (image l.s) (image l.r))) l.w l.d l.k × (length l.w ≡ length l.initial.w)

abbrev pub decreases-loop-k : goal.decreases-loop-k
decreases-loop-k l = 2 * (1024 - (l.d + l.k)) + l.k
