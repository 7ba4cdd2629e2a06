-- `lay_out` moves the sides to DONE, the rightmost first (`Laying`). Assumes nothing.
use mathlib.Core.Path.{◌∙◌, ap}
use native.Mathlib.Omega.{arith}
use lib.ListN.{length}
use Prim.Native.Nat.{◌-◌}
use Rattle.import_sides.proofs.Cells.{cell_length}
use Rattle.import_sides.proofs.Laying.{Laying, lay_start, lay_next, lay_on, lay_end}
use borrow.Author.Rules.{rules}
use Rattle.import_sides.proofs.queue.lay_out.Given as goal

abbrev pub invariant-loop-i : goal.invariant-loop-i
invariant-loop-i l = Laying l.initial.w l.k l.w l.i l.at

abbrev pub decreases-loop-i : goal.decreases-loop-i
decreases-loop-i l = l.i
