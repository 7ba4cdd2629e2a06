-- `farey_signed_query` meets its contract: what its query promises (`signed_call`), with the sign. Assumes nothing.
use mathlib.Core.Path.{ap, ◌∙◌}
use mir.Facts.{to_z-of_z}
use mir.Syntax.{w64}
use lib.ListN.{length}
use Rattle.call.specs.Call.{verdict}
use Rattle.matrix.proofs.Bounds.{kept}
use Rattle.matrix.specs.Matrix.{of_list}
use Rattle.word.specs.Answer.{found_word, found_sign}
use Rattle.word.proofs.Order.{query_run}
use Rattle.engine.proofs.Numbers.{query_numbered}
use Rattle.engine.specs.Exported.{sign_written}
use Rattle.engine.proofs.Said.{call_word, sign_left_lem, signed_call}
use borrow.Author.Rules.{rules}
use Rattle.engine.proofs.queries.farey_signed_query.Goals as goal

pub returns : goal.returns
returns c =
    let q = c.query-answer in
    let s = c.args in
    let k = c.of_query-said.ensures in
    let x = c.sign_written in
    let told = to_z-of_z {w = w64} {z = x.result} (record { sfits = x.type_inv }) ∙ x.ensures ∙ ap (sign_written q.result)
    (kept s.sign.now c.sign_written-arg-1.given) in
    let sign = sign_left_lem s.start (length (found_word s.v s.t.now (of_list s.a.now) (of_list s.b.now)))
    (found_sign s.v s.t.now (of_list s.a.now) (of_list s.b.now))
    (verdict (query_run s.v s.t.now s.a.now s.b.now s.w.now q.new.w s.out.now q.new.out s.start))
    q.ensures.answer s.sign.now told in
    call_word _ (query_numbered s.v s.t.now s.a.now s.b.now s.w.now q.new.w s.out.now
    q.new.out s.start)
    s.start (found_sign s.v s.t.now (of_list s.a.now) (of_list s.b.now))
    (signed_call s.v s.t.now s.a.now s.b.now s.w.now q.new.w s.out.now q.new.out s.start
    q.ensures.leaves
    _ s.sign.now sign)
    (q.ensures.leaves.0, (q.ensures.leaves.1.0, (sign, tt))) q.ensures.answer k.0 k.1
