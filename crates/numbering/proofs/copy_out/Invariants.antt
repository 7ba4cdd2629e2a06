-- `numbering::copy_out` meets its contract. The loop's invariant: j entries of the table, and then what stood there.
-- Assumes nothing.
use mathlib.Core.Path.{◌≡◌}
use mathlib.Core.List.{◌++◌}
use lib.ListN.{length, drop}
use Rattle.call.specs.Space.{entries}
use Rattle.numbering.proofs.copy_out.Given as goal

abbrev pub invariant-loop-j : goal.invariant-loop-j
invariant-loop-j l = (l.out ≡ entries l.off l.j l.w ++ drop l.j l.initial.out) × (length l.out ≡ length l.initial.out)
