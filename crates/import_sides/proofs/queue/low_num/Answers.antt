-- `low_num` reads the right end of the cell that l links, and -1/0 where it links none; the code of -1 is 10⁹ - 1. Assumes nothing.
use mathlib.Core.Path.{◌∙◌}
use lib.Dec.{lit<}
use Rattle.import_sides.proofs.Stores.{low_none, low_some}
use borrow.Author.Rules.{rules}
use Rattle.import_sides.proofs.queue.low_num.Goals as goal

pub returns-then-l-eq0 : goal.returns-then-l-eq0
returns-then-l-eq0 c = let s = c in ((low_none s.args.w.now s.args.l c.if-l-eq0.true).0, lit< tt)

pub returns : goal.returns
returns c =
    let i = c in
    let a = i in
    let s = a in (c.number_at.ensures.0 ∙ (low_some s.args.w.now s.args.l i.if-l-eq0.false).0, c.number_at.ensures.1)
