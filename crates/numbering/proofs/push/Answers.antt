-- `numbering::push` meets its contract.
-- Assumes nothing.
use Rattle.numbering.proofs.Listing.{pushed}
use Rattle.numbering.proofs.push.Goals as goal

pub returns : goal.returns
returns c = pushed c.requires
