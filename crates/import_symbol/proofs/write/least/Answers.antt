-- `least` is the smaller of two points: x where x < y, else y. Assumes nothing.
use Rattle.import_symbol.proofs.Stored.{least_yes, least_no}
use borrow.Author.Rules.{rules}
use Rattle.import_symbol.proofs.write.least.Goals as goal

pub returns-then-x-y : goal.returns-then-x-y
returns-then-x-y c = least_yes c.args.x c.args.y c.if-x-y.true

pub returns : goal.returns
returns c = least_no c.args.x c.args.y c.if-x-y.false
