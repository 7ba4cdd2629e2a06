-- `generators` meets its contract: a call that is not admitted leaves everything as it was (`admit_stop`); for one that is, the table is a symbol
-- (`admitted`), and the answer is that of `list_accepted` (`admit_pass`). Assumes nothing.
use mathlib.Core.Path.{refl}
use lib.ListN.{length}
use Rattle.std.proofs.lemmas.Result.{err_from_is_err_and}
use Rattle.call.proofs.Laws.{admit_stop, admit_pass, fills_as, ran}
use Rattle.symbol.specs.Check.{symbol_check}
use Rattle.pairing.proofs.Admitted.{admitted}
use Rattle.pairing.proofs.generator.generators.Goals as goal

pub returns-in_err-admit : goal.returns-in_err-admit
returns-in_err-admit c =
    let p = err_from_is_err_and c.from_residual.result c.from_residual.ensures.1 in
    let w = c.args.w.now in
    rw (p.1, p.2) (fills_as (admit_stop w _ (symbol_check c.args.v c.args.t.now) w _ c.in_err-admit.ensures refl (refl, tt)) refl)

pub list_accepted-requires : goal.list_accepted-requires
list_accepted-requires c = admitted c.args.v c.args.t.now (length c.args.w.now) c.in_ok-admit.ensures

pub returns : goal.returns
returns c =
    let made = c.list_accepted.ensures in
    fills_as (admit_pass c.args.w.now _ (symbol_check c.args.v c.args.t.now) _ c.in_ok-admit.ensures made.w_after (ran made.fills)) made.fills.answer
