-- `number_at` is 65536 times the first number plus the second; both are below 65536, so the sum is below 2³². Assumes nothing.
use Rattle.import_sides.proofs.Cells.{number_is}
use borrow.Author.Rules.{rules}
use Rattle.import_sides.proofs.cell.number_at.Goals as goal

pub returns : goal.returns
returns c =
    let s = c in
    number_is s.args.w.now s.args.at _ _ c.long-high.ensures.0 c.long-low.ensures.0 c.long-high.ensures.1
    c.long-low.ensures.1
