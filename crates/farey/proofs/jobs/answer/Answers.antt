-- `answer` meets its contract. An input that was read: the bytes are those of the job, and mean what they should (`means`). One that could not be
-- read: nothing is done. Assumes nothing.
use mathlib.Core.Path.{refl}
use native.Mathlib.Omega.{arith}
use Rattle.text.proofs.InputText.{puts_prints, when_read, when_failed}
use Rattle.farey.proofs.Meanings.{means}
use Rattle.farey.proofs.jobs.answer.Goals as goal

pub returns-in_default : goal.returns-in_default
returns-in_default c = when_failed c.in_default.is refl refl

pub returns : goal.returns
returns c =
    let ended = c in
    let told = ended in
    let job = told.args.job in
    when_read told.in-Read.is ended.text_end-end.ensures (puts_prints c.answer_text.ensures (omega arith)) (means job told.in-Read.longer)
