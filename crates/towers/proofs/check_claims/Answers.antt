-- `check_claims` gives 26 where a claim is false; clearing comes before, so zeros stay. Assumes nothing.
use mathlib.Core.Path.{sym, ◌∙◌, ap}
use Rattle.call.specs.declared.refusal.Refusal.TheVariants.{FalseClaim}
use Rattle.call.specs.Space.{zeros}
use Rattle.symbol.proofs.Order.{refuse_at_lem, accept_at}
use Rattle.towers.specs.Tower.{claim_fails}
use Rattle.towers.proofs.check_claims.Goals as goal

pub returns-then-e-n : goal.returns-then-e-n
returns-then-e-n c =
    let k = c in
    let f = k in
    let s = f in record { value = sym (refuse_at_lem (claim_fails s.args.n s.args.t.now) s.args.n f.first_false-e.result FalseClaim f.first_false-e.ensures c.if-e-n.true); w_after = k.clear.ensures ∙ ap zeros k.w-1.given }

pub returns : goal.returns
returns c =
    let k = c in
    let f = k in
    let s = f in record { value = sym (accept_at (claim_fails s.args.n s.args.t.now) s.args.n f.first_false-e.result FalseClaim f.first_false-e.ensures c.if-e-n.false); w_after = k.clear.ensures ∙ ap zeros k.w-1.given }
