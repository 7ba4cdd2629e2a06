-- `left_den` is the denominator where the first side to do begins: 0, that of -1/0, before any side is done, and else the last done one's.
-- Assumes nothing.
use mathlib.Core.Path.{◌∙◌}
use lib.Dec.{lit<}
use borrow.Author.Tests.{eqb-true, eqb-false}
use Rattle.import_sides.proofs.Cells.{left_none, left_some}
use borrow.Author.Rules.{rules}
use Rattle.import_sides.proofs.walk.left_den.Goals as goal

pub returns-then-d-eq0 : goal.returns-then-d-eq0
returns-then-d-eq0 c = let s = c in ((left_none s.args.w.now s.args.d c.if-d-eq0.true).1, lit< tt)

pub returns : goal.returns
returns c =
    let s = c in
    (c.number_at.ensures.0 ∙ (left_some s.args.w.now s.args.d c.if-d-eq0.false).1, c.number_at.ensures.1)
