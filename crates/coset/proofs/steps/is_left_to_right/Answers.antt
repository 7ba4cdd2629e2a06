-- `is_left_to_right`: by the corner inside a triangle (`edge_low`), and at an outer face by whether it is the last side's (`edge_high`). Assumes nothing.
use Rattle.coset.proofs.Noted.{edge_low, edge_high}
use borrow.Author.Rules.{rules}
use Rattle.coset.proofs.steps.is_left_to_right.Goals as goal

pub returns-then-p-b : goal.returns-then-p-b
returns-then-p-b c = edge_low c.args.v c.args.p c.if-p-b.true

pub returns : goal.returns
returns c = edge_high c.args.v c.args.p c.if-p-b.false
