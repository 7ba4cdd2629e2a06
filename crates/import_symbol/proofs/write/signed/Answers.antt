-- `signed` keeps the value of x, which is far below 2⁶³. Assumes nothing.
use Rattle.import_symbol.proofs.Stored.{signed_is}
use borrow.Author.Rules.{rules}
use Rattle.import_symbol.proofs.write.signed.Goals as goal

pub returns : goal.returns
returns c = signed_is _ c.requires
