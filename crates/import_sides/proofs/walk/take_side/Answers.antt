-- `take_side` has three cases: a closed side moves on (`moved`), an open one whose mediant keeps to the limit is split (`parted`), and any other
-- stops the walk (`over`). Sums of codes don't overflow, each being below 2³². Assumes nothing.
use Rattle.import_sides.proofs.Turn.{within_tells, sums, split_eq, fits_eq}
use Prim.Native.Nat.{◌+◌}
use mathlib.Core.Path.{◌≡◌, refl, sym, ◌∙◌, ap}
use native.Mathlib.Omega.{arith}
use Rattle.import_sides.specs.Inner.Work.{closed_in, moved, over, parted}
use Rattle.permutations.specs.Pair.{image}
use Rattle.import_rule.specs.Fixed.{by_q}
use borrow.Author.Rules.{rules}
use Rattle.import_sides.proofs.walk.take_side.Goals as goal

pub returns-then-is_closed : goal.returns-then-is_closed
returns-then-is_closed c =
    let s = c in
    let sg = image s.args.s.now in
    let ka = by_q sg (image s.args.r.now) in
    let e = ap (closed_in sg ka s.args.w.now) (sym c.point_at-m.ensures.0)
    ∙ sym c.is_closed.ensures ∙ c.if-is_closed.true in
    moved e c.move_top.ensures refl refl refl

pub overflow_sub-e : goal.overflow_sub-e
overflow_sub-e c =
    let t = within_tells
    (c.left_num.result
    + c.number_at.result)
    (c.left_den.result + c.number_at-2.result)
    (sym
    c.within.ensures ∙ c.if-within.true) in
    let a = t.0 in
    let b = t.1 in
    let d = t.2 in
    a

pub split_top-requires : goal.split_top-requires
split_top-requires c =
    let earlier = c in
    let t = within_tells
    (c.left_num.result
    + c.number_at.result)
    (c.left_den.result + c.number_at-2.result)
    (sym
    c.within.ensures ∙ c.if-within.true) in
    let a = t.0 in
    let b = t.1 in
    let d = t.2 in
    let z = earlier.requires in
    (z.pair, z.some, z.todo, z.point, z.long, omega arith, omega arith)

pub returns-then-within : goal.returns-then-within
returns-then-within c =
    let earlier = c in
    let s = earlier in
    let sg = image s.args.s.now in
    let ka = by_q sg (image s.args.r.now) in
    let e = ap (closed_in sg ka s.args.w.now)
    (sym earlier.point_at-m.ensures.0)
    ∙ sym earlier.is_closed.ensures
    ∙ earlier.if-is_closed.false in
    let p = sums _ _ _ _ earlier.left_num.ensures.0
    c.number_at.ensures.0 in
    let q = sums _ _ _ _ c.left_den.ensures.0
    c.number_at-2.ensures.0 in
    parted e (sym (fits_eq sg ka s.args.w.now s.args.k _ _ _ _ p q) ∙ sym c.within.ensures
    ∙ c.if-within.true)
    (c.split_top.ensures ∙ split_eq sg ka s.args.w.now s.args.k _ _ _ _ p q) refl refl refl

pub returns : goal.returns
returns c =
    let earlier = c in
    let s = earlier in
    let sg = image s.args.s.now in
    let ka = by_q sg (image s.args.r.now) in
    let e = ap (closed_in sg ka s.args.w.now)
    (sym earlier.point_at-m.ensures.0)
    ∙ sym earlier.is_closed.ensures
    ∙ c.if-is_closed.false in
    let p = sums _ _ _ _ c.left_num.ensures.0
    c.number_at.ensures.0 in
    let q = sums _ _ _ _ c.left_den.ensures.0 c.number_at-2.ensures.0 in
    over e (sym (fits_eq sg ka s.args.w.now s.args.k _ _ _ _ p q) ∙ sym c.within.ensures ∙ c.if-within.false) refl refl refl
