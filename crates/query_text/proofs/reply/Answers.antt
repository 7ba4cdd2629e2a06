-- `reply` meets its contract. An input that was read: the arrays are long enough, and the bytes mean what the claim says
-- (`reply_means`). One that could not be read: nothing is done. Assumes nothing.
use mathlib.Core.Path.{refl}
use native.Mathlib.Omega.{arith}
use Rattle.text.proofs.InputText.{puts_prints, when_read, when_failed}
use Rattle.query_text.proofs.Replied.{reply_means}
use Rattle.query_text.proofs.reply.Goals as goal

pub returns-in_default : goal.returns-in_default
returns-in_default c = when_failed c.in_default.is refl refl

pub returns : goal.returns
returns c =
    let ended = c in
    let p = c.reply_text.ensures in
    when_read ended.in-Read.is ended.text_end-end.ensures (puts_prints p (omega arith)) (λ t. reply_means _ t refl)
