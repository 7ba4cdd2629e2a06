-- `text::blank` meets its contract: each test of the byte is one of `is_blank`. Assumes nothing.
use Rattle.std.proofs.Common.{rules}
use Rattle.text.specs.Blank.{is_blank}
use Rattle.text.proofs.blank.Goals as goal

pub returns-then-b-eq10 : goal.returns-then-b-eq10
unfolding is_blank
returns-then-b-eq10 c = search rules

pub returns-else-b-eq10 : goal.returns-else-b-eq10
unfolding is_blank
returns-else-b-eq10 c = search rules
