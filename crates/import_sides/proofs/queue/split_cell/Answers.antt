-- `split_cell` splits a side in its cell: its point m gives way to the S images of m turned by Q, once and twice, which are points of the
-- tables again (`split_low`); what is left is the split by definition (`split_is`). Assumes nothing.
use native.Mathlib.Omega.{arith}
use Prim.Native.Nat.{◌-◌}
use Rattle.permutations.specs.Pair.{image}
use Rattle.import_rule.specs.Fixed.{by_q}
use Rattle.import_sides.proofs.Turn.{low_is}
use Rattle.import_sides.proofs.Stores.{split_low, split_is}
use borrow.Author.Rules.{rules}
use Rattle.import_sides.proofs.queue.split_cell.Goals as goal

pub hold-requires : goal.hold-requires
hold-requires c =
    let i = c in
    let a = i in
    let t = a in
    let b = t in
    let p = b in
    let z = p.requires in
    let mlow = low_is _ _ _ p.point_at-m.ensures.0 z.0.point in
    let lows = split_low _ _ z.0.pair _ _ _ _ _ mlow b.turned-p.ensures t.turned-q.ensures a.image-a.ensures i.image-b.ensures in
    let alow = lows.0 in
    let blow = lows.1 in
    let mo = z.0.pair.most in
    let cl = z.0.low in
    let kl = z.0.room in
    (omega arith, alow, blow, omega arith, omega arith, z.0.long)

pub store-requires : goal.store-requires
store-requires c =
    let z = c.requires in
    let blow =
    (let i = c in
    let a = i in
    let t = a in
    let b = t in
    let mlow = low_is _ _ _ b.point_at-m.ensures.0 z.0.point in
    (split_low _ _ z.0.pair _ _ _ _ _ mlow b.turned-p.ensures t.turned-q.ensures a.image-a.ensures i.image-b.ensures).1) in
    let cl = z.0.low in
    let ln = z.0.long in
    (search rules, omega arith)

pub put_cell-requires : goal.put_cell-requires
put_cell-requires c =
    let z =
    (let i = c in
    i.requires) in
    let alow =
    (let i = c in
    let a = i in
    let t = a in
    let b = t in
    let mlow = low_is _ _ _ b.point_at-m.ensures.0 z.0.point in
    (split_low _ _ z.0.pair _ _ _ _ _ mlow b.turned-p.ensures t.turned-q.ensures a.image-a.ensures i.image-b.ensures).0) in
    let kl = z.0.room in
    (search rules, omega arith, z.1, z.2, omega arith)

pub join-requires : goal.join-requires
join-requires c =
    let z =
    (let i = c in
    i.requires.0) in
    let l =
    (let i = c in
    i.entry-l.ensures.1) in
    (z.low, z.room, l, search rules)

pub overflow_mul-k-2 : goal.overflow_mul-k-2
overflow_mul-k-2 c =
    let i = c in
    let s = i in
    let kl = s.requires.0.room in omega arith

pub overflow_sub-k : goal.overflow_sub-k
overflow_sub-k c =
    let i = c in
    let s = i in
    let kl = s.requires.0.some in omega arith

pub enqueue-requires : goal.enqueue-requires
enqueue-requires c =
    let z =
    (let i = c in
    i.requires) in
    let lows =
    (let h = c in
    let i = h in
    let a = i in
    let t = a in
    let b = t in
    let mlow = low_is _ _ _ b.point_at-m.ensures.0 z.0.point in
    split_low _ _ z.0.pair _ _ _ _ _ mlow b.turned-p.ensures t.turned-q.ensures a.image-a.ensures i.image-b.ensures) in
    let alow = lows.0 in
    let blow = lows.1 in
    let kl = z.0.room in
    (omega arith, omega arith, omega arith, search rules)

pub returns : goal.returns
returns c =
    let e = c in
    let j = e in
    let p = j in
    let a = p in
    let h = a in
    let b = h in
    let i = b in
    let d = i in
    let t = d in
    let f = t in
    let g = f in
    let k = g in
    let s = k.args in
    let sg = image s.s.now in
    let ka = by_q sg (image s.r.now) in
    split_is sg ka s.w.now _ _ _ _ _ s.c s.k s.e s.d _ _ _ _ _ _ g.point_at-m.ensures.0 f.turned-p.ensures t.turned-q.ensures
    d.image-a.ensures i.image-b.ensures b.entry-l.ensures.0 h.hold.ensures a.store.ensures p.put_cell.ensures j.join.ensures
    e.enqueue.ensures
