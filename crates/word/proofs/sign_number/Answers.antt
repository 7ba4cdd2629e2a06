-- `sign_number` is 1 for plus and -1 for minus. Assumes nothing.
use mathlib.Core.Path.{sym, ap}
use Rattle.word.specs.Answer.{sign_number}
use Rattle.word.proofs.sign_number.Goals as goal

pub returns-then-sign : goal.returns-then-sign
returns-then-sign c = ap sign_number (sym c.if-sign.true)

pub returns : goal.returns
returns c = ap sign_number (sym c.if-sign.false)
