-- `tables` meets its contract: a call that is not admitted leaves everything as it was (`admit_stop`); for one that is, the
-- table is a symbol (`admitted`), and the answer is that of `make_tables` (`admit_pass`). Assumes nothing.
use Rattle.std.specs.Prelude.{Err}
use mathlib.Core.Path.{◌≡◌, refl, sym, ◌∙◌}
use lib.ListN.{length}
use Rattle.call.proofs.Laws.{admit_stop, admit_pass, fills_as, ran}
use Rattle.symbol.specs.Check.{symbol_check}
use Rattle.pairing.proofs.Admitted.{admitted}
use borrow.Author.Rules.{rules}
use Rattle.coset.proofs.tables.Goals as goal

pub make_tables-requires : goal.make_tables-requires
make_tables-requires c = admitted c.args.v c.args.t.now (length c.args.w.now) (sym c.in_ok-admit.was ∙ c.admit.ensures)

pub returns-in_err-admit : goal.returns-in_err-admit
returns-in_err-admit c =
    let e : c.from_residual.result ≡ Err c.in_err-admit.field-0.0 = search rules in
    fills_as (admit_stop c.args.w.now _ (symbol_check c.args.v c.args.t.now) c.args.w.now c.in_err-admit.field-0.0
    (sym c.in_err-admit.was ∙ c.admit.ensures) refl (refl, (refl, (refl, tt)))) e

pub returns : goal.returns
returns c =
    let made = c.make_tables.ensures in
    fills_as (admit_pass c.args.w.now _ (symbol_check c.args.v c.args.t.now) _ (sym c.in_ok-admit.was ∙ c.admit.ensures)
    made.w_after (ran made.fills)) made.fills.answer
