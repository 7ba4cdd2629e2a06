-- `query_by` meets its contract: what its query promises (`named_call`). Assumes nothing.
use Rattle.import_symbol.specs.Answer.{order_by}
use Rattle.named_groups.specs.Answer.{named_rule, ruled_sign}
use Rattle.engine.proofs.Numbers.{named_numbered}
use Rattle.engine.proofs.Said.{call_word, named_call}
use borrow.Author.Rules.{rules}
use Rattle.engine.proofs.named.query_by.Goals as goal

pub returns : goal.returns
returns c =
    let q = c.named_query_by in
    let s = c.args in
    let k = c.of_query-said.ensures in
    call_word _ (named_numbered (order_by s.wide) s.family s.n s.a.now s.b.now s.w.now q.new.w s.out.now
    q.new.out s.start)
    s.start (ruled_sign (named_rule (order_by s.wide) s.family s.n) s.a.now s.b.now)
    (named_call (order_by s.wide) s.family s.n s.a.now s.b.now s.w.now q.new.w s.out.now q.new.out
    s.start q.ensures.leaves)
    q.ensures.leaves q.ensures.answer k.0 k.1
