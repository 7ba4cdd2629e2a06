-- `is_closed`: a side is closed where Q fixes its point, or where the S image of that is a side's point as well, which covers even sides
-- and free pairs at once. Assumes nothing.
use Rattle.permutations.specs.Pair.{image}
use Rattle.import_rule.specs.Fixed.{by_q}
use native.Mathlib.Omega.{arith}
use Rattle.permutations.proofs.Images.{low_S}
use Rattle.import_sides.proofs.Cells.{closed_odd, closed_held}
use borrow.Author.Rules.{rules}
use Rattle.import_sides.proofs.walk.is_closed.Goals as goal

pub returns-then-q-m : goal.returns-then-q-m
returns-then-q-m c =
    let s = c in
    let sg = image s.args.s.now in
    closed_odd sg (by_q sg (image s.args.r.now)) s.args.w.now s.args.m _ c.turned-q.ensures c.if-q-m.true

pub overflow_add-result : goal.overflow_add-result
overflow_add-result c =
    let s = c in
    let k = (low_S _ _ s.requires.0 _ _ s.requires.1 c.image-x.ensures).0 in
    let l = s.requires.0.most in
    let b = s.requires.2 in
    omega arith

pub offset_bounds-w-x : goal.offset_bounds-w-x
offset_bounds-w-x c =
    let s = c in
    let k = (low_S _ _ s.requires.0 _ _ s.requires.1 c.image-x.ensures).0 in
    let l = s.requires.0.most in
    let b = s.requires.2 in
    omega arith

pub bounds-w-x : goal.bounds-w-x
bounds-w-x c =
    let s = c in
    let k = (low_S _ _ s.requires.0 _ _ s.requires.1 c.image-x.ensures).0 in
    let l = s.requires.0.most in
    let b = s.requires.2 in
    omega arith

pub returns : goal.returns
returns c =
    let s = c in
    let sg = image s.args.s.now in
    closed_held sg (by_q sg (image s.args.r.now)) s.args.w.now s.args.m _ c.turned-q.ensures
    c.if-q-m.false _ c.image-x.ensures
