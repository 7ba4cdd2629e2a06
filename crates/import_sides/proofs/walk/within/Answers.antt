-- `within` is three comparisons: too low (`within_low`), too high (`within_high`), and else the denominator decides (`within_both`).
-- Assumes nothing.
use Rattle.import_sides.proofs.Turn.{within_low, within_high, within_both}
use borrow.Author.Rules.{rules}
use Rattle.import_sides.proofs.walk.within.Goals as goal

pub returns-then-e-lt1000000000 : goal.returns-then-e-lt1000000000
returns-then-e-lt1000000000 c = within_low c.args.e c.args.c c.if-e-lt1000000000.true

pub returns-then-e-gt3000000000 : goal.returns-then-e-gt3000000000
returns-then-e-gt3000000000 c = within_high c.args.e c.args.c c.if-e-gt3000000000.true

pub returns : goal.returns
returns c = within_both c.args.e c.args.c c.if-e-lt1000000000.false c.if-e-gt3000000000.false
