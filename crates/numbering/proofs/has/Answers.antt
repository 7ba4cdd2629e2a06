-- `numbering::has` meets its contract: the test of the sparse set is the test for a number.
-- Assumes nothing.
use mathlib.Core.Path.{◌∙◌}
use native.Mathlib.Omega.{arith}
use borrow.Author.Tests.{le-ltb}
use Rattle.numbering.proofs.Listing.{has_no, has_by}
use Rattle.numbering.proofs.has.Goals as goal

pub returns-else-k-n : goal.returns-else-k-n
returns-else-k-n c = le-ltb _ _ (omega arith) ∙ has_no c.requires.sparse c.args.x (omega arith)

pub returns-then-k-n : goal.returns-then-k-n
returns-then-k-n c = rw (c.from.ensures, c.from-k.ensures) (has_by c.requires.sparse c.args.x (omega arith))
