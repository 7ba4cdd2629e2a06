-- `preview`: a refusal of the checks leaves everything as it was (`run_stop`); what passed them can be exchanged (`exchangeable`), and then the answer is
-- what is asked of the exchanged symbol (`run_pass`). Assumes nothing.
use Rattle.std.specs.Prelude.{Err}
use mathlib.Core.Path.{◌≡◌, refl, sym, ◌∙◌}
use mir.Facts.{to_z-of_z}
use Rattle.call.proofs.Laws.{run_stop, run_pass, fills_as, ran}
use Rattle.partner_exchange.specs.Answer.{exchange_check}
use Rattle.partner_exchange.proofs.Answered.{exchangeable}
use borrow.Author.Rules.{rules}
use Rattle.partner_exchange.proofs.preview.Goals as goal

-- what passed the checks can be exchanged
pub preview_exchanged-requires : goal.preview_exchanged-requires
preview_exchanged-requires c =
    rw (to_z-of_z c.ranges.x, to_z-of_z c.ranges.y)
    (exchangeable c.args.v c.args.t.now c.args.x c.args.y
    (sym (rw (to_z-of_z c.ranges.x, to_z-of_z c.ranges.y) at c.exchange_check.ensures) ∙ c.in_ok-exchange_check.was))

pub returns-in_err-exchange_check : goal.returns-in_err-exchange_check
returns-in_err-exchange_check c =
    let e : c.from_residual.result ≡ Err c.in_err-exchange_check.field-0.0 = search rules in
    let refused = sym (rw (to_z-of_z c.ranges.x, to_z-of_z c.ranges.y) at c.exchange_check.ensures) ∙ c.in_err-exchange_check.was in
    fills_as (run_stop c.in_err-exchange_check.field-0.0 (exchange_check c.args.v c.args.t.now c.args.x c.args.y) _ refused (refl, (refl, tt))) e

pub returns : goal.returns
returns c =
    let passed = sym (rw (to_z-of_z c.ranges.x, to_z-of_z c.ranges.y) at c.exchange_check.ensures) ∙ c.in_ok-exchange_check.was in
    let g = rw (to_z-of_z c.ranges.x, to_z-of_z c.ranges.y) at c.preview_exchanged.ensures in
    fills_as (run_pass (exchange_check c.args.v c.args.t.now c.args.x c.args.y) _ passed (ran g)) g.answer
