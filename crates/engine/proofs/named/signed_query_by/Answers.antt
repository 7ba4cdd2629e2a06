-- `signed_query_by` meets its contract: what its query promises (`named_signed_call`), with the sign. Assumes nothing.
use mathlib.Core.Path.{ap, ◌∙◌}
use mir.Facts.{to_z-of_z}
use mir.Syntax.{w64}
use lib.ListN.{length}
use Rattle.call.specs.Call.{verdict}
use Rattle.matrix.proofs.Bounds.{kept}
use Rattle.import_symbol.specs.Answer.{order_by}
use Rattle.named_groups.specs.Answer.{named_rule, ruled_word, ruled_sign}
use Rattle.named_groups.proofs.Asking.{named_run}
use Rattle.engine.proofs.Numbers.{named_numbered}
use Rattle.engine.specs.Exported.{sign_written}
use Rattle.engine.proofs.Said.{call_word, sign_left_lem, named_signed_call}
use borrow.Author.Rules.{rules}
use Rattle.engine.proofs.named.signed_query_by.Goals as goal

pub returns : goal.returns
returns c =
    let q = c.named_query_by-answer in
    let s = c.args in
    let k = c.of_query-said.ensures in
    let x = c.sign_written in
    let told = to_z-of_z {w = w64} {z = x.result} (record { sfits = x.type_inv }) ∙ x.ensures ∙ ap (sign_written q.result)
    (kept s.sign.now c.sign_written-arg-1.given) in
    let sign = sign_left_lem s.start (length (ruled_word (named_rule (order_by s.wide) s.family s.n) s.a.now s.b.now))
    (ruled_sign (named_rule (order_by s.wide) s.family s.n) s.a.now s.b.now)
    (verdict (named_run (order_by s.wide) s.family s.n s.a.now s.b.now s.w.now q.new.w s.out.now
    q.new.out s.start))
    q.ensures.answer s.sign.now told in
    call_word _ (named_numbered (order_by s.wide) s.family s.n s.a.now s.b.now s.w.now q.new.w s.out.now
    q.new.out s.start)
    s.start (ruled_sign (named_rule (order_by s.wide) s.family s.n) s.a.now s.b.now)
    (named_signed_call (order_by s.wide) s.family s.n s.a.now s.b.now s.w.now q.new.w s.out.now
    q.new.out s.start q.ensures.leaves _ s.sign.now sign)
    (q.ensures.leaves.0, (q.ensures.leaves.1.0, (sign, tt))) q.ensures.answer k.0 k.1
