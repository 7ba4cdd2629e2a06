-- `farey_query` meets its contract: what its query promises (`query_call_lem`). Assumes nothing.
use Rattle.matrix.specs.Matrix.{of_list}
use Rattle.word.specs.Answer.{found_sign}
use Rattle.engine.proofs.Numbers.{query_numbered}
use Rattle.engine.proofs.Said.{call_word, query_call_lem}
use borrow.Author.Rules.{rules}
use Rattle.engine.proofs.queries.farey_query.Goals as goal

pub returns : goal.returns
returns c =
    let q = c.query in
    let s = c.args in
    let k = c.of_query-said.ensures in
    call_word _ (query_numbered s.v s.t.now s.a.now s.b.now s.w.now q.new.w s.out.now
    q.new.out s.start)
    s.start (found_sign s.v s.t.now (of_list s.a.now) (of_list s.b.now))
    (query_call_lem s.v s.t.now s.a.now s.b.now s.w.now q.new.w s.out.now q.new.out s.start
    q.ensures.leaves)
    q.ensures.leaves q.ensures.answer k.0 k.1
