-- `matrix_and_work` meets its contract: a fault of the matrix, or what the check of the work space says. Assumes nothing.
use Rattle.std.specs.Prelude.{Err}
use mathlib.Core.Path.{◌≡◌, sym, ◌∙◌}
use Rattle.call.specs.Space.{work_length}
use Rattle.call.specs.Call.{length_check}
use Rattle.call.proofs.Answers.{first_refuses, then_next}
use Rattle.matrix_word.specs.Answer.{matrix_check}
use borrow.Author.Rules.{rules}
use Rattle.matrix_word.proofs.matrix_and_work.Goals as goal

pub returns-in_err-matrix_check : goal.returns-in_err-matrix_check
returns-in_err-matrix_check c =
    let e : c.from_residual.result ≡ Err c.in_err-matrix_check.field-0.0 = search rules in
    e ∙ first_refuses (matrix_check c.args.m) (length_check work_length c.args.work) c.in_err-matrix_check.field-0.0
    (sym c.matrix_check.ensures ∙ c.in_err-matrix_check.was)

pub returns : goal.returns
returns c =
    c.room.ensures
    ∙ then_next (matrix_check c.args.m) (length_check work_length c.args.work) (sym c.matrix_check.ensures ∙ c.in_ok-matrix_check.was)
