-- `congruence_tables::prepare` meets its contract: the columns for Γ0, nothing for the others.
-- Assumes nothing.
use borrow.Author.Rules.{rules}
use Rattle.congruence_tables.proofs.Entries.{prepared_0, prepared_1, prepared_2}
use Rattle.congruence_tables.proofs.prepare.Goals as goal

pub returns-in-Gamma0 : goal.returns-in-Gamma0
returns-in-Gamma0 c = prepared_0 c.in-Gamma0.is c.columns.ensures

pub returns-in-Gamma1 : goal.returns-in-Gamma1
returns-in-Gamma1 c = let s = c.args in prepared_1 s.n s.w.now c.in-Gamma1.is

pub returns-in-Gamma : goal.returns-in-Gamma
returns-in-Gamma c = let s = c.args in prepared_2 s.n s.w.now c.in-Gamma.is
