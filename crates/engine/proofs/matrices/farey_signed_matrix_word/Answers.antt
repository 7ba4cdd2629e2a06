-- `farey_signed_matrix_word` meets its contract: what its call promises (`signed_matrix_call`), with the sign. Assumes nothing.
use mathlib.Core.Path.{ap, ◌∙◌}
use mir.Facts.{to_z-of_z}
use mir.Syntax.{w64}
use lib.ListN.{length}
use Rattle.call.specs.Call.{verdict}
use Rattle.matrix.proofs.Bounds.{kept}
use Rattle.matrix_word.specs.Answer.{member_word, member_sign}
use Rattle.engine.specs.Exported.{sign_written}
use Rattle.engine.proofs.MatrixSaid.{matrix_run, matrix_numbered, signed_matrix_call}
use Rattle.engine.proofs.Said.{call_word, sign_left_lem}
use borrow.Author.Rules.{rules}
use Rattle.engine.proofs.matrices.farey_signed_matrix_word.Goals as goal

pub returns : goal.returns
returns c =
    let q = c.matrix_word-answer in
    let s = c.args in
    let k = c.of_query-said.ensures in
    let x = c.sign_written in
    let w' = q.new.w in
    let out' = q.new.out in
    let told = to_z-of_z {w = w64} {z = x.result} (record { sfits = x.type_inv }) ∙ x.ensures ∙ ap (sign_written q.result)
    (kept s.sign.now c.sign_written-arg-1.given) in
    let sign = sign_left_lem s.start (length (member_word s.v s.t.now s.m.now)) (member_sign s.v s.t.now s.m.now)
    (verdict (matrix_run s.v s.t.now s.m.now s.w.now w' s.out.now out' s.start))
    q.ensures.answer s.sign.now told in
    call_word _ (matrix_numbered s.v s.t.now s.m.now s.w.now w' s.out.now out' s.start)
    s.start (member_sign s.v s.t.now s.m.now)
    (signed_matrix_call s.v s.t.now s.m.now s.w.now w' s.out.now out' s.start q.ensures.leaves _ s.sign.now sign)
    (q.ensures.leaves.0, (q.ensures.leaves.1.0, (sign, tt))) q.ensures.answer k.0 k.1
