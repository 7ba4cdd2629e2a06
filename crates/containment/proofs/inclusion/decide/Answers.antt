-- `decide` meets its contract: where `admit_both` refuses, all is as it was (`refused_both`); else both tables are symbols, they are compared, and the
-- work space is cleared (`decided_both`). Assumes nothing.
use borrow.Author.Rules.{rules}
use Rattle.std.specs.Prelude.{Err}
use Rattle.std.proofs.lemmas.Result.{err_from_is_err_and}
use mathlib.Core.Path.{refl, sym, ap, ◌∙◌}
use lib.ListN.{length}
use Rattle.basics.specs.Choice.{pick}
use Rattle.pairing.proofs.Both.{both_admitted_lem, refused_both, decided_both}
use Rattle.containment.specs.Group.{same_tables}
use Rattle.containment.specs.TwoSymbols.{contained}
use Rattle.containment.proofs.inclusion.decide.Goals as goal

pub compare_clear-requires : goal.compare_clear-requires
compare_clear-requires c =
    both_admitted_lem c.args.v c.args.t.now c.args.n c.args.u.now (length c.args.w.now) (sym c.in_ok-admit_both.was ∙ c.admit_both.ensures)

pub returns-in_err-admit_both : goal.returns-in_err-admit_both
returns-in_err-admit_both c =
    let e = err_from_is_err_and _ c.from_residual.ensures.1 in
    let v = c.args.v in
    let t = c.args.t.now in
    let n = c.args.n in
    let u = c.args.u.now in
    refused_both v t n u c.args.w.now _ (pick c.args.same (same_tables v t n u) (contained n u v t)) c.in_err-admit_both.field-0.0
    (sym c.in_err-admit_both.was ∙ c.admit_both.ensures) refl (e.1 ∙ ap Err e.2)

pub returns : goal.returns
returns c =
    decided_both c.args.v c.args.t.now c.args.n c.args.u.now c.args.w.now _ _ (sym c.in_ok-admit_both.was ∙ c.admit_both.ensures)
    c.compare_clear.ensures.w_after c.compare_clear.ensures.value refl
