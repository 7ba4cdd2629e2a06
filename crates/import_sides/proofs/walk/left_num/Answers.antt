-- `left_num` reads the right end of the last side done, which is the left end of the first side to do. With none done that is -1/0, and the
-- code of -1 is 10⁹ - 1. Assumes nothing.
use mathlib.Core.Path.{◌∙◌}
use lib.Dec.{lit<}
use borrow.Author.Tests.{eqb-true, eqb-false}
use Rattle.import_sides.proofs.Cells.{left_none, left_some}
use borrow.Author.Rules.{rules}
use Rattle.import_sides.proofs.walk.left_num.Goals as goal

pub returns-then-d-eq0 : goal.returns-then-d-eq0
returns-then-d-eq0 c = let s = c in ((left_none s.args.w.now s.args.d c.if-d-eq0.true).0, lit< tt)

pub returns : goal.returns
returns c =
    let s = c in
    (c.number_at.ensures.0 ∙ (left_some s.args.w.now s.args.d c.if-d-eq0.false).0, c.number_at.ensures.1)
