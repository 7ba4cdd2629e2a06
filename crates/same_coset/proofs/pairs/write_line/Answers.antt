-- `write_line` puts the line of each answer, whose numbers fit. Assumes nothing.
use Rattle.std.specs.Prelude.{true, false, Ok, Err}
use mathlib.Core.Path.{ap, ◌∙◌}
use mathlib.Core.Bool.{Bool}
use Rattle.call.specs.Refusal.{Decision}
use Rattle.same_coset.proofs.Lines.{line_is}
use Rattle.same_coset.proofs.pairs.write_line.Goals as goal

pub put_refusal-requires : goal.put_refusal-requires
put_refusal-requires c =
    let k = c in
    let st = k in
    let f = st.requires.1.refused _ k.in-Err.is in
    (st.requires.0, f.0, f.1)

pub returns-in-Ok-true : goal.returns-in-Ok-true
returns-in-Ok-true c =
    c.put_two.ensures ∙ line_is c.args.i c.args.lines.now c.args.answer (Ok true)
    (c.in-Ok-true.is ∙ ap {B = Decision} (λ (b : Bool). Ok b) c.in-Ok-true.field-0-test)

pub returns-in-Ok-false : goal.returns-in-Ok-false
returns-in-Ok-false c =
    c.put_two-in-Ok-false.ensures ∙ line_is c.args.i c.args.lines.now c.args.answer (Ok false)
    (c.in-Ok-false.is ∙ ap {B = Decision} (λ (b : Bool). Ok b) c.in-Ok-false.field-0-test)

pub returns-in-Err : goal.returns-in-Err
returns-in-Err c =
    let k = c in
    let st = k in
    c.put_refusal.ensures ∙ line_is st.args.i st.args.lines.now st.args.answer (Err _) k.in-Err.is
