-- `matrix_word` meets its contract: a call that is not admitted leaves all as it was (`stop_admitted`); for one that is, the answer is that of `answer`
-- (`run_admitted`). Assumes nothing.
use Rattle.std.specs.Prelude.{Err}
use mathlib.Core.Path.{◌≡◌, refl, sym, ◌∙◌}
use Rattle.call.proofs.Laws.{fills_as, ran}
use Rattle.matrix_word.proofs.Checks.{stop_admitted, run_admitted, admitted}
use borrow.Author.Rules.{rules}
use Rattle.matrix_word.proofs.matrix_word.Goals as goal

pub answer-requires : goal.answer-requires
answer-requires c = admitted c.args.v c.args.t.now c.args.m c.args.w.now (sym c.in_ok-admit.was ∙ c.admit.ensures)

pub returns-in_err-admit : goal.returns-in_err-admit
returns-in_err-admit c =
    let e : c.from_residual.result ≡ Err c.in_err-admit.field-0.0 = search rules in
    fills_as (stop_admitted c.args.v c.args.t.now c.args.m c.args.w.now c.args.w.now _ c.in_err-admit.field-0.0
    (sym c.in_err-admit.was ∙ c.admit.ensures) refl (refl, tt)) e

pub returns : goal.returns
returns c =
    let f = c.answer.ensures in
    fills_as (run_admitted c.args.v c.args.t.now c.args.m c.args.w.now _ _ (sym c.in_ok-admit.was ∙ c.admit.ensures) f.w_after (ran f.fills)) f.fills.answer
