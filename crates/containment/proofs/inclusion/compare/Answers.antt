-- `compare`, by what is asked. Assumes nothing.
use borrow.Author.Rules.{rules}
use Rattle.containment.proofs.inclusion.compare.Goals as goal

pub returns-then-same : goal.returns-then-same
returns-then-same c = let d = c.same_accepted.ensures in (rw c.if-same.true d.0, d.1)

pub returns : goal.returns
returns c = let d = c.contains_accepted.ensures in (rw c.if-same.false d.0, d.1)
