-- `times_r` gives the residues of the entries of x R (`product_r`).
-- Assumes nothing.
use borrow.Author.Rules.{rules}
use Rattle.congruence_tables.proofs.Products.{product_r}
use Rattle.congruence_tables.proofs.residues.times_r.Goals as goal

pub returns : goal.returns
returns c = let s = c in
    rw (c.difference.ensures, c.difference-2.ensures) (product_r s.args.n s.args.x s.requires.0.some s.requires.1)
