-- `grow` looks where Q leads from point 0: if Q moves it, the group is neither of the small ones (`moved_by_Q`, `first_moved`) and its
-- symbol is grown; if Q fixes it, `grow_fixed` looks further. Assumes nothing.
use Rattle.import_symbol.proofs.Answers.{answers, room_for, rule_large, moved_by_Q, first_moved}
use Rattle.import_symbol.specs.Answer.{order_by}
use borrow.Author.Rules.{rules}
use Rattle.import_symbol.proofs.grow.Goals as goal

pub grow_large-requires : goal.grow_large-requires
grow_large-requires c =
    let s = c in
    let S = s.args.s.now in
    let R = s.args.r.now in
    let z = s.requires in
    let n = moved_by_Q (order_by s.args.wide) S R z.0 _ c.turned-q.ensures c.if-q-eq0.false in
    let m = first_moved (order_by s.args.wide) S R z.0 _ c.turned-q.ensures c.if-q-eq0.false in
    (z.0, z.1, n, room_for _ _ _ (rule_large (order_by s.args.wide) S R z.0 n m) z.2)

pub returns : goal.returns
returns c =
    let g = c in
    let i = g in
    let t = i in
    let s = t in
    let S = s.args.s.now in
    let R = s.args.r.now in
    let O = s.args.out.now in
    let z = s.requires in
    let k = answers _ _ _ O _ (rule_large (order_by s.args.wide) S R z.0 (moved_by_Q (order_by s.args.wide) S R z.0 _ t.turned-q.ensures i.if-q-eq0.false)
    (first_moved (order_by s.args.wide) S R z.0 _ t.turned-q.ensures i.if-q-eq0.false)) g.grow_large.ensures.value g.grow_large.ensures.out_after in
    record { value = k.0; out_after = k.1 }
