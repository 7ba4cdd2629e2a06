-- `ask`: the figures of `survey`, and then the widths where there is room for them (`run_made`, `run_refused`); clearing comes last, so zeros stay.
-- Assumes nothing.
use Rattle.std.specs.Prelude.{Ok, Err}
use Rattle.std.proofs.lemmas.Result.{err_from_is_err_and}
use mathlib.Core.Path.{◌≡◌, refl, ◌∙◌, ap}
use Rattle.call.specs.Space.{zeros}
use Rattle.call.proofs.Laws.{fills_as}
use Rattle.call.proofs.Answered.{run_made, run_refused}
use Rattle.coset.proofs.Stored.{stored_as}
use borrow.Author.Rules.{rules}
use Rattle.partner_exchange.proofs.ask.Goals as goal

pub returns-in_err-made : goal.returns-in_err-made
returns-in_err-made c =
    let e : c.from_residual.result ≡ Err c.in_err-made.field-0.0 = (let k = err_from_is_err_and _ c.from_residual.ensures.1 in k.1 ∙ ap Err k.2) in
    let g = c.survey-f.ensures in
    let made = stored_as _ _ c.args.out.now c.copy_widths-made.ensures g.widths_are refl in
    record { fills = fills_as (run_refused made _ c.in_err-made.was) e; w_after = c.clear.ensures ∙ ap zeros g.same }

pub returns : goal.returns
returns c =
    let g = c.survey-f.ensures in
    let made = stored_as _ _ c.args.out.now c.copy_widths-made.ensures g.widths_are refl in
    record { fills = fills_as (run_made made _ c.in_ok-made.was) (ap Ok g.figures); w_after = c.clear.ensures ∙ ap zeros g.same }
