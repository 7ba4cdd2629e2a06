-- `opposite` is the remainder of n - c: that is n - c, or 0 where c is 0.
-- Assumes nothing.
use borrow.Author.Rules.{rules}
use Rattle.congruence_tables.proofs.Signs.{opposite_zero, opposite_some}
use Rattle.congruence_tables.proofs.residues.opposite.Goals as goal

pub returns-then-c-eq0 : goal.returns-then-c-eq0
returns-then-c-eq0 c = let s = c in opposite_zero s.args.n s.args.c s.requires.0.some c.if-c-eq0.true

pub returns : goal.returns
returns c = let s = c in opposite_some s.args.n s.args.c s.requires.0.some c.if-c-eq0.false
