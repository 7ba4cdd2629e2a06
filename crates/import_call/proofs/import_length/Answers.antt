-- `import_length` answers 12 to 15 as `check` does (`length_refused`), and else with the length that is needed (`length_made`). Assumes nothing.
use Rattle.std.specs.Prelude.{Err}
use Rattle.std.proofs.lemmas.Result.{err_from_is_err_and}
use mathlib.Core.Path.{sym, ap, ◌∙◌}
use Rattle.call.proofs.Laws.{answer_is}
use native.Mathlib.Omega.{arith}
use Rattle.permutations.proofs.Answering.{passport_of}
use Rattle.import_call.proofs.Answering.{length_refused, length_made}
use borrow.Author.Rules.{rules}
use Rattle.import_call.proofs.import_length.Goals as goal

pub needed_length-n-requires : goal.needed_length-n-requires
needed_length-n-requires c =
    let p = passport_of c.args.s.now c.args.r.now (sym c.check.ensures.returned ∙ c.in_ok-check.was) in
    omega (arith, p.most, p.even)

pub returns-in_err-check : goal.returns-in_err-check
returns-in_err-check c =
    let e = err_from_is_err_and _ c.from_residual.ensures.1 in
    answer_is (e.1 ∙ ap Err e.2) (length_refused c.args.s.now c.args.r.now _ (sym c.check.ensures.returned ∙ c.in_err-check.was))

pub returns : goal.returns
returns c = length_made c.args.s.now c.args.r.now _ (sym c.check.ensures.returned ∙ c.in_ok-check.was) c.needed_length-n.ensures
