-- `with_sign`: one more than twice the code is odd, twice the code is even, and half of either is the code (`code_plus`, `code_minus`). Assumes nothing.
use Rattle.coset.proofs.Noted.{code_plus, code_minus}
use borrow.Author.Rules.{rules}
use Rattle.coset.proofs.steps.with_sign.Goals as goal

pub returns-then-sign : goal.returns-then-sign
returns-then-sign c = rw c.if-sign.true (code_plus c.args.code)

pub returns : goal.returns
returns c = rw c.if-sign.false (code_minus c.args.code)
