-- `numerator` undoes the 10⁹ that numerators are kept with: a number of 32 bits less 10⁹ is a signed one of 64 (`numerator_fits`).
-- Assumes nothing.
use Rattle.import_symbol.proofs.Stored.{numerator_fits, numerator_is}
use borrow.Author.Rules.{rules}
use Rattle.import_symbol.proofs.write.numerator.Goals as goal

pub overflow_sub-result : goal.overflow_sub-result
overflow_sub-result c = numerator_fits _ c.args.e c.signed-x.ensures c.signed-x.type_inv c.requires

pub returns : goal.returns
returns c = numerator_is _ c.args.e c.signed-x.ensures c.signed-x.type_inv c.requires
