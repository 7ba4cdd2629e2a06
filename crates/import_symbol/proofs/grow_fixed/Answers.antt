-- `grow_fixed`, where Q fixes point 0, has three cases: S fixes it too, pairings -2 -3 (`rule_first`); Q also fixes its S image, pairings
-- -3 -3 (`rule_second`); any other group is grown (`rule_large`). Assumes nothing.
use Rattle.import_symbol.proofs.Answers.{answers, small_room, room_for, rule_first, rule_second, rule_large, neither, first_no}
use Rattle.import_symbol.specs.Answer.{order_by}
use borrow.Author.Rules.{rules}
use Rattle.import_symbol.proofs.grow_fixed.Goals as goal

pub grow_small-requires : goal.grow_small-requires
grow_small-requires c =
    let a = c in
    let s = a in
    let z = s.requires in
    small_room _ _ _ (rule_first (order_by s.args.wide) s.args.s.now s.args.r.now z.0 z.2 _ a.image-o.ensures c.if-o-eq0.true)
    z.3

pub returns-then-o-eq0 : goal.returns-then-o-eq0
returns-then-o-eq0 c =
    let g = c in
    let i = g in
    let a = i in
    let s = a in
    let S = s.args.s.now in
    let R = s.args.r.now in
    let O = s.args.out.now in
    let z = s.requires in
    let k = answers _ _ _ O _ (rule_first (order_by s.args.wide) S R z.0 z.2 _ a.image-o.ensures i.if-o-eq0.true) g.grow_small.ensures.value
    g.grow_small.ensures.out_after in
    record { value = k.0; out_after = k.1 }

pub grow_small-requires-then-x-o : goal.grow_small-requires-then-x-o
grow_small-requires-then-x-o c =
    let t = c in
    let b = t in
    let s = b in
    let z = s.requires in
    small_room _ _ _ (rule_second (order_by s.args.wide) s.args.s.now s.args.r.now z.0 z.2 _ _ b.image-o.ensures t.if-o-eq0.false
    t.turned-x.ensures c.if-x-o.true) z.3

pub returns-then-x-o : goal.returns-then-x-o
returns-then-x-o c =
    let g = c in
    let i = g in
    let t = i in
    let a = t in
    let b = a in
    let s = b in
    let S = s.args.s.now in
    let R = s.args.r.now in
    let O = s.args.out.now in
    let z = s.requires in
    let k = answers _ _ _ O _ (rule_second (order_by s.args.wide) S R z.0 z.2 _ _ b.image-o.ensures a.if-o-eq0.false t.turned-x.ensures i.if-x-o.true)
    g.grow_small-then-x-o.ensures.value g.grow_small-then-x-o.ensures.out_after in
    record { value = k.0; out_after = k.1 }

pub grow_large-requires : goal.grow_large-requires
grow_large-requires c =
    let i = c in
    let t = i in
    let a = t in
    let s = a in
    let S = s.args.s.now in
    let R = s.args.r.now in
    let z = s.requires in
    let n = neither (order_by s.args.wide) S R z.0 _ _ a.image-o.ensures t.turned-x.ensures i.if-x-o.false in
    let m = first_no (order_by s.args.wide) S R z.0 _ a.image-o.ensures t.if-o-eq0.false in
    (z.0, z.1, n, room_for _ _ _ (rule_large (order_by s.args.wide) S R z.0 n m) z.3)

pub returns : goal.returns
returns c =
    let g = c in
    let i = g in
    let t = i in
    let a = t in
    let b = a in
    let s = b in
    let S = s.args.s.now in
    let R = s.args.r.now in
    let O = s.args.out.now in
    let z = s.requires in
    let k = answers _ _ _ O _ (rule_large (order_by s.args.wide) S R z.0
    (neither (order_by s.args.wide) S R z.0 _ _ b.image-o.ensures t.turned-x.ensures i.if-x-o.false)
    (first_no (order_by s.args.wide) S R z.0 _ b.image-o.ensures a.if-o-eq0.false)) g.grow_large.ensures.value g.grow_large.ensures.out_after in
    record { value = k.0; out_after = k.1 }
