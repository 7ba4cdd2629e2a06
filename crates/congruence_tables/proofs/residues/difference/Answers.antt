-- `difference` is the remainder of d + (n - c): that is n + (d - c) where c is at most d, and below n where it is not.
-- Assumes nothing.
use borrow.Author.Rules.{rules}
use Rattle.congruence_tables.proofs.Signs.{difference_up, difference_down}
use native.Mathlib.Omega.{arith}
use Rattle.congruence_tables.proofs.residues.difference.Goals as goal

pub returns-then-c-d : goal.returns-then-c-d
returns-then-c-d c = let s = c in difference_up s.args.n s.args.d s.args.c s.requires.1 s.requires.2 (omega arith)

pub returns : goal.returns
returns c = let s = c in difference_down s.args.n s.args.d s.args.c s.requires.1 s.requires.2 (omega arith)
