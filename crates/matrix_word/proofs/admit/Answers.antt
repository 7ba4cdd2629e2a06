-- `admit` meets its contract: a fault of the symbol, or what `matrix_and_work` says. Assumes nothing.
use Rattle.std.specs.Prelude.{Err}
use mathlib.Core.Path.{◌≡◌, sym, ◌∙◌}
use Rattle.call.specs.Space.{work_length}
use Rattle.call.specs.Refusal.{◌or_else◌}
use Rattle.call.specs.Call.{length_check}
use Rattle.call.proofs.Answers.{first_refuses, then_next}
use Rattle.symbol.specs.Check.{symbol_check}
use Rattle.matrix_word.specs.Answer.{matrix_check}
use borrow.Author.Rules.{rules}
use Rattle.matrix_word.proofs.admit.Goals as goal

pub returns-in_err-check : goal.returns-in_err-check
returns-in_err-check c =
    let e : c.from_residual.result ≡ Err c.in_err-check.field-0.0 = search rules in
    e ∙ first_refuses (symbol_check c.args.v c.args.t.now) (matrix_check c.args.m or_else length_check work_length c.args.work)
    c.in_err-check.field-0.0 (sym c.check.ensures.returned ∙ c.in_err-check.was)

pub returns : goal.returns
returns c =
    c.matrix_and_work.ensures
    ∙ then_next (symbol_check c.args.v c.args.t.now) (matrix_check c.args.m or_else length_check work_length c.args.work)
    (sym c.check.ensures.returned ∙ c.in_ok-check.was)
