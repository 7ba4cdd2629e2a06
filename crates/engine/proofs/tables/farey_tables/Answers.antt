-- `farey_tables` meets its contract: it tells the number and the count of the answer of `coset::tables` (`call_made`), which say what
-- `tables_says` has. Assumes nothing.
use Rattle.call.proofs.Laws.{call_made}
use Rattle.coset.proofs.Answer.{tables_says}
use borrow.Author.Rules.{rules}
use Rattle.engine.proofs.Numbers.{tables_numbered}
use Rattle.engine.proofs.tables.farey_tables.Goals as goal

pub returns : goal.returns
returns c =
    let earlier = c in
    let q = c.tables in
    let s = earlier in
    call_made _ (tables_numbered s.args.v s.args.t.now s.args.w.now s.args.s.now s.args.r.now s.args.u.now)
    (tables_says s.args.v s.args.t.now _ _ _ _) q.ensures c.of_filled-said.ensures.0 c.of_filled-said.ensures.1
