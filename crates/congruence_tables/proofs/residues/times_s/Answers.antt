-- `times_s` gives the residues of the entries of x S (`product_s`).
-- Assumes nothing.
use borrow.Author.Rules.{rules}
use Rattle.congruence_tables.proofs.Products.{product_s}
use Rattle.congruence_tables.proofs.residues.times_s.Goals as goal

pub returns : goal.returns
returns c = let s = c in
    rw (c.opposite.ensures, c.opposite-2.ensures) (product_s s.args.n s.args.x s.requires.0.some s.requires.1)
