-- `congruence_tables::tables` meets its contract. The loop's invariant: the work space holds the list after i visits, and i entries of each table
-- are there. The measure is what is left of 3,066.
-- Assumes nothing.
use borrow.Author.Rules.{rules}
use mathlib.Core.Path.{◌≡◌, refl, ◌∙◌}
use Prim.Native.Nat.{◌-◌}
use native.Mathlib.Omega.{arith}
use lib.ListN.{length}
use Rattle.congruence_tables.proofs.Walked.{Part, part_start, part_few, part_visits, part_more, part_end_lem, part_S, part_R, part_holds}
use Rattle.congruence_tables.proofs.begin.Reads as begin-reads
use Rattle.congruence_tables.proofs.visit.Reads as visit-reads
use Rattle.congruence_tables.proofs.tables.Given as goal

abbrev pub invariant-loop-i : goal.invariant-loop-i
invariant-loop-i l = Part l.f l.n l.initial.s l.initial.r l.w l.s l.r l.count l.i × (length l.w ≡ length l.initial.w)

abbrev pub decreases-loop-i : goal.decreases-loop-i
decreases-loop-i l = 3066 - l.i
