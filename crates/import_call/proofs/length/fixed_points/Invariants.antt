-- `fixed_points` counts the places that the table fixes. The loop's invariant: the count is that of the places below i.
-- Assumes nothing.
use mathlib.Core.Path.{◌≡◌, refl, sym, ◌∙◌}
use mathlib.Core.Logic.{⊎_elim}
use Prim.Native.Nat.{◌-◌, ◌≤◌}
use native.Mathlib.Omega.{arith}
use lib.ListN.{length}
use Rattle.basics.specs.Count.{those}
use Rattle.numbering.proofs.Those.{those_few}
use Rattle.figures.specs.Cusps.{is_fixed}
use Rattle.figures.proofs.Scan.{fixed_yes, fixed_no}
use borrow.Author.Rules.{rules}
use Rattle.import_call.proofs.length.fixed_points.Given as goal

abbrev pub invariant-loop-i : goal.invariant-loop-i
invariant-loop-i l = (l.i ≤ length l.r) × (l.count ≡ length (those (is_fixed l.r) l.i))
