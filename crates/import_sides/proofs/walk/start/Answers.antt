-- `start` has two cases: Q fixes point 0, and the vertices are -1/1 and 0/1 (`start_low`); or they are 0/1 and 1/1 (`start_high`). The
-- points of the sides are images of points, so they are in range. Assumes nothing.
use mathlib.Core.Path.{◌≡◌, refl, sym, ◌∙◌, ap}
use native.Mathlib.Omega.{arith}
use Rattle.permutations.proofs.Images.{low_S}
use Rattle.import_rule.proofs.Images.{low_Q}
use Rattle.import_sides.proofs.Turn.{start_low, start_high}
use Rattle.permutations.specs.Pair.{image}
use Rattle.import_rule.specs.Fixed.{by_q}
use borrow.Author.Rules.{rules}
use Rattle.import_sides.proofs.walk.start.Goals as goal

pub start_by-requires : goal.start_by-requires
start_by-requires c =
    let z = c.requires in
    let pr = z.0 in
    let n0 = pr.permuting.some in
    let mo = pr.most in
    let ol = (low_S _ _ pr 0 _ n0 c.image-o.ensures).0 in
    let xl = low_Q _ _ pr _ _ ol c.turned-x.ensures in
    let yl = low_Q _ _ pr _ _ xl c.turned-y.ensures in
    let a = (low_S _ _ pr _ _ xl c.image-p2.ensures).0 in
    let b = (low_S _ _ pr _ _ yl c.image-p1.ensures).0 in
    (omega arith, omega arith, omega arith, z.1, omega arith, omega arith)

pub returns-then-q-eq0 : goal.returns-then-q-eq0
returns-then-q-eq0 c =
    let s = c in
    let sg = image s.args.s.now in
    let ka = by_q sg (image s.args.r.now) in
    start_low sg ka s.args.w.now _ _ _ c.image-o.ensures
    c.turned-q.ensures
    c.if-q-eq0.true _ _ _ _
    c.turned-x.ensures c.turned-y.ensures
    c.image-p2.ensures c.image-p1.ensures c.start_by.ensures

pub start_by-requires-2 : goal.start_by-requires-2
start_by-requires-2 c =
    let z = c.requires in
    let pr = z.0 in
    let n0 = pr.permuting.some in
    let mo = pr.most in
    let ol = (low_S _ _ pr 0 _ n0 c.image-o.ensures).0 in
    let ql = low_Q _ _ pr 0 _ n0 c.turned-q.ensures in
    let yl = low_Q _ _ pr _ _ ql c.turned-y-2.ensures in
    let a = (low_S _ _ pr _ _ ql c.image-p1-2.ensures).0 in
    let b = (low_S _ _ pr _ _ yl c.image-p0.ensures).0 in
    (omega arith, omega arith, omega arith, z.1, omega arith, omega arith)

pub returns : goal.returns
returns c =
    let s = c in
    let sg = image s.args.s.now in
    let ka = by_q sg (image s.args.r.now) in
    start_high sg ka s.args.w.now _ _ _ c.image-o.ensures
    c.turned-q.ensures
    c.if-q-eq0.false _ _ _ c.turned-y-2.ensures
    c.image-p1-2.ensures c.image-p0.ensures
    c.start_by-2.ensures
