-- `farey_matrix_word` meets its contract: what its call promises (`matrix_call`). Assumes nothing.
use Rattle.matrix_word.specs.Answer.{member_sign}
use Rattle.engine.proofs.MatrixSaid.{matrix_numbered, matrix_call}
use Rattle.engine.proofs.Said.{call_word}
use borrow.Author.Rules.{rules}
use Rattle.engine.proofs.matrices.farey_matrix_word.Goals as goal

pub returns : goal.returns
returns c =
    let q = c.matrix_word in
    let s = c.args in
    let k = c.of_query-said.ensures in
    let w' = q.new.w in
    let out' = q.new.out in
    call_word _ (matrix_numbered s.v s.t.now s.m.now s.w.now w' s.out.now out' s.start)
    s.start (member_sign s.v s.t.now s.m.now)
    (matrix_call s.v s.t.now s.m.now s.w.now w' s.out.now out' s.start q.ensures.leaves)
    q.ensures.leaves q.ensures.answer k.0 k.1
