-- `is_bad_count` is its definition, test by test. Assumes nothing.
use borrow.Author.Tests.{eq-eqb, ne_eqb}
use Rattle.sheets.proofs.is_bad_count.Goals as goal

pub returns-then-n-ne0 : goal.returns-then-n-ne0
returns-then-n-ne0 c = simp (ne_eqb _ _ c.if-n-ne0.true)

pub returns-else-n-ne0 : goal.returns-else-n-ne0
returns-else-n-ne0 c = simp (eq-eqb _ _ c.if-n-ne0.false)
