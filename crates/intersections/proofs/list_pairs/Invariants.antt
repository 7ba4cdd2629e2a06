-- `intersections::list_pairs` meets its contract. The loop's invariant: the work space holds the list after i visits, and i entries of each table.
-- The measure is what is left of 3,066.
-- Assumes nothing.
use borrow.Author.Rules.{rules}
use mathlib.Core.Path.{◌≡◌, refl, ◌∙◌}
use Prim.Native.Nat.{◌-◌}
use native.Mathlib.Omega.{arith}
use lib.ListN.{length}
use Rattle.intersections.proofs.Walk.{Walked, start_enters, walked_start, walked_visits, walked_more, listed_large, listed_all}
use Rattle.intersections.proofs.list_pairs.Given as goal

abbrev pub invariant-loop-i : goal.invariant-loop-i
invariant-loop-i l = Walked l.s l.r l.s2 l.r2 l.m l.w l.i l.count × (length l.w ≡ length l.initial.w)

abbrev pub decreases-loop-i : goal.decreases-loop-i
decreases-loop-i l = 3066 - l.i
