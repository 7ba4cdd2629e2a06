-- `residues::second` gives the second number of the pair of the family; it is small, for the numbers of an entry are at most 1,000.
-- Assumes nothing.
use borrow.Author.Rules.{rules}
use Rattle.congruence_tables.proofs.Keys.{second_2}
use Rattle.congruence_tables.proofs.residues.second.Goals as goal

pub returns-in-Gamma : goal.returns-in-Gamma
returns-in-Gamma c = second_2 c.args.x c.in-Gamma.is
