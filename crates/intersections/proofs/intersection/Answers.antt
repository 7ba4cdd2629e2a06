-- `intersections::intersection` meets its contract: where `admit_both` refuses, all is as it was (`stop_both`); else both tables are symbols, and the answer is
-- that of `intersect` (`run_both`).
-- Assumes nothing.
use borrow.Author.Rules.{rules}
use Rattle.std.specs.Prelude.{Err}
use Rattle.std.proofs.lemmas.Result.{err_from_is_err_and}
use mathlib.Core.Path.{refl, sym, ap, ◌∙◌}
use lib.ListN.{length}
use Rattle.call.specs.Inner.Fills.{made_if}
use Rattle.call.proofs.Laws.{fills_as, ran}
use Rattle.pairing.proofs.Both.{both_admitted_lem, stop_both, run_both}
use Rattle.containment.specs.TwoSymbols.{common_cosets}
use Rattle.intersections.proofs.intersection.Goals as goal

pub intersect-requires : goal.intersect-requires
intersect-requires c =
    both_admitted_lem c.args.v c.args.t.now c.args.n c.args.u.now (length c.args.w.now) (sym c.in_ok-admit_both.was ∙ c.admit_both.ensures)

pub returns-in_err-admit_both : goal.returns-in_err-admit_both
returns-in_err-admit_both c =
    let e = err_from_is_err_and _ c.from_residual.ensures.1 in
    let w = c.args.w.now in
    fills_as {by = made_if (length (common_cosets c.args.v c.args.t.now c.args.n c.args.u.now))}
    (stop_both c.args.v c.args.t.now c.args.n c.args.u.now w w _ c.in_err-admit_both.field-0.0
    (sym c.in_err-admit_both.was ∙ c.admit_both.ensures) refl (refl, (refl, (refl, tt)))) (e.1 ∙ ap Err e.2)

pub returns : goal.returns
returns c =
    let i = c.intersect.ensures in
    fills_as {by = made_if (length (common_cosets c.args.v c.args.t.now c.args.n c.args.u.now))}
    (run_both c.args.v c.args.t.now c.args.n c.args.u.now c.args.w.now _ _
    (sym c.in_ok-admit_both.was ∙ c.admit_both.ensures) i.w_after (ran i.fills)) i.fills.answer
