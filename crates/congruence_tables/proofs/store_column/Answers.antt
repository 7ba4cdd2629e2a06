-- `congruence_tables::put` meets its contract: two stores.
-- Assumes nothing.
use borrow.Author.Rules.{rules}
use native.Mathlib.Omega.{arith}
use lib.ListN.{length-set}
use Rattle.congruence_tables.proofs.store_column.Goals as goal

pub bounds-w-c-2 : goal.bounds-w-c-2
bounds-w-c-2 c = simp length-set (omega arith)
