-- `turned` takes the steps S, R, R and S from x, one after another, which is how Q is defined on points. Assumes nothing.
use borrow.Author.Rules.{rules}
use Rattle.import_rule.proofs.turned.Goals as goal

pub returns : goal.returns
returns c = cc (c.image.ensures, c.image-c.ensures, c.image-b.ensures, c.image-a.ensures)
