-- `congruence_tables::columns` meets its contract. The loop's invariant: the columns of the numbers before c and of their negatives are made.
-- The measure is n - c.
-- Assumes nothing.
use native.Mathlib.Omega.{arith}
use Prim.Native.Nat.{◌-◌, ◌≤◌}
use Rattle.congruence_tables.proofs.Column.{ColumnsTo, columns_none, puts_first, puts_second, columns_next, columns_all}
use Rattle.congruence_tables.proofs.columns.Given as goal

abbrev pub invariant-loop-c : goal.invariant-loop-c
invariant-loop-c l = ColumnsTo l.n l.initial.w l.w l.c × (l.c ≤ l.n)

abbrev pub decreases-loop-c : goal.decreases-loop-c
decreases-loop-c l = l.n - l.c
