-- `keep` meets its contract. The loop's invariant: j entries of the table, and then what stood there.
-- Assumes nothing.
use borrow.Author.Rules.{rules}
use mathlib.Core.Path.{◌≡◌, refl}
use mathlib.Core.List.{◌++◌}
use Prim.Native.Nat.{◌-◌, ◌≤◌}
use native.Mathlib.Omega.{arith}
use lib.ListN.{length, drop, length-set}
use Rattle.call.specs.Space.{entries}
use Rattle.numbering.proofs.Space.{copy_more}
use Rattle.containment.proofs.sameness.keep.Given as goal

abbrev pub invariant-loop-j : goal.invariant-loop-j
invariant-loop-j l = (l.out ≡ entries l.off l.j l.w ++ drop l.j l.initial.out) × (l.j ≤ l.n) × (length l.out ≡ length l.initial.out)
