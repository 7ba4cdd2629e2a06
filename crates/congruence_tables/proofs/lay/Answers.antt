-- `congruence_tables::lay` meets its contract: two stores for Γ0, none for the others.
-- Assumes nothing.
use borrow.Author.Rules.{rules}
use native.Mathlib.Omega.{arith}
use lib.ListN.{length-set}
use Rattle.congruence_tables.proofs.Entries.{laid_0}
use Rattle.congruence_tables.proofs.lay.Goals as goal

pub bounds-w-i-in-Gamma0 : goal.bounds-w-i-in-Gamma0
bounds-w-i-in-Gamma0 c = simp length-set (omega arith)

pub returns-in-Gamma0 : goal.returns-in-Gamma0
returns-in-Gamma0 c = let s = c in laid_0 s.args.w.now s.args.i s.args.x c.in-Gamma0.is
