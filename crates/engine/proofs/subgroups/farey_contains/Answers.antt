-- `farey_contains` meets its contract: it tells the decision of `contains`. Assumes nothing.
use mathlib.Core.Path.{refl}
use Rattle.call.proofs.Laws.{call_decided}
use Rattle.containment.proofs.InclusionMeans.{contains_says}
use borrow.Author.Rules.{rules}
use Rattle.engine.proofs.Numbers.{two_numbered}
use Rattle.engine.proofs.subgroups.farey_contains.Goals as goal

pub returns : goal.returns
returns c =
    let s = c in
    call_decided _ (two_numbered s.args.v s.args.t.now s.args.w.now s.args.m s.args.u.now)
    (contains_says s.args.v s.args.t.now s.args.m s.args.u.now (record { entry = s.args.w; exit = s.args.w })) _ refl
    c.contains.ensures c.of_decision-said.ensures.0 c.of_decision-said.ensures.1
