-- `text::read_input` meets its contract: a longer text is refused, and any other is read. Assumes nothing.
use mathlib.Core.Path.{refl, ◌∙◌}
use lib.ListN.{length}
use Rattle.text.specs.Inner.Inside.{left_by}
use Rattle.text.proofs.Handed.{input_longer, input_read}
use Rattle.text.proofs.read_input.Goals as goal

pub returns-then-longer : goal.returns-then-longer
unfolding left_by
returns-then-longer c =
    let a = c.args in
    (input_longer a.longer a.format a.text.now (length a.out.now) c.if-longer.true, refl)

pub returns : goal.returns
returns c =
    let a = c.args in
    let r = c.read.ensures in
    (r.0 ∙ input_read a.longer a.format a.text.now (length a.out.now) c.if-longer.false, r.1)
