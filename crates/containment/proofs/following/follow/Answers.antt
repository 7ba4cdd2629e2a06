-- `follow`: the corner under the start goes where S leads from the other start, or the start itself is one (`face_decides`, `corner_decides`). Assumes nothing.
use borrow.Author.Rules.{rules}
use mathlib.Core.Path.{refl, ◌∙◌, ap}
use native.Mathlib.Omega.{arith}
use Rattle.polygon.specs.Step.{step_s}
use Rattle.polygon.proofs.Polygon.{polygon}
use Rattle.containment.proofs.Decided.{corner_decides, face_decides, face_corner}
use Rattle.containment.proofs.following.follow.Goals as goal

pub follow_lone-requires : goal.follow_lone-requires
follow_lone-requires c =
    let s = c in
    let b = s.requires.0 in
    let v = s.args.v in
    let t = s.args.t.now in
    let n = s.args.n in
    let u = s.args.u.now in
    (b, c.if-n-eq1.true, s.requires.1, s.requires.2)

pub returns-then-n-eq1 : goal.returns-then-n-eq1
returns-then-n-eq1 c =
    let s = c in
    let b = s.requires.0 in
    let v = s.args.v in
    let t = s.args.t.now in
    let n = s.args.n in
    let u = s.args.u.now in
    (c.follow_lone.ensures, b.tables, refl)

pub carries-requires : goal.carries-requires
carries-requires c =
    let s = c in
    let b = s.requires.0 in
    let v = s.args.v in
    let t = s.args.t.now in
    let n = s.args.n in
    let u = s.args.u.now in
    (b, c.if-o-n.true, rw s.requires.1 (polygon v t b.symbol).walks.origin)

pub returns-then-o-n : goal.returns-then-o-n
returns-then-o-n c =
    let a2 = c in
    let a4 = c in
    let a5 = c in
    let s = c in
    let b = s.requires.0 in
    let v = s.args.v in
    let t = s.args.t.now in
    let n = s.args.n in
    let u = s.args.u.now in
    let d = a2.carries.ensures in (
      corner_decides v t n u b.symbol b.tables.symbol a5.if-n-eq1.false d.0 (rw s.requires.2 at a4.if-o-n.true) s.requires.2 s.requires.1,
      d.1,
      d.2,
    )

pub step_s-p-requires : goal.step_s-p-requires
step_s-p-requires c =
    let s = c in
    let b = s.requires.0 in
    let v = s.args.v in
    let t = s.args.t.now in
    let n = s.args.n in
    let u = s.args.u.now in
    (b.tables, rw s.requires.2 (polygon n u b.tables.symbol).walks.origin)

pub step-z-requires : goal.step-z-requires
step-z-requires c =
    let s = c in
    let b = s.requires.0 in
    let v = s.args.v in
    let t = s.args.t.now in
    let n = s.args.n in
    let u = s.args.u.now in
    (b.symbol, b.steps, rw s.requires.1 (polygon v t b.symbol).walks.origin)

pub carries-requires-2 : goal.carries-requires-2
carries-requires-2 c =
    let a2 = c in
    let a4 = c in
    let a5 = c in
    let s = c in
    let b = s.requires.0 in
    let v = s.args.v in
    let t = s.args.t.now in
    let n = s.args.n in
    let u = s.args.u.now in
    let e = a2.step_s-p.ensures ∙ ap (step_s n u) s.requires.2 in (
      b,
      rw e (face_corner v t n u b.symbol b.tables.symbol a5.if-n-eq1.false (omega (arith, s.requires.2, a4.if-o-n.false))),
      c.step-z.ensures.1,
    )

pub returns : goal.returns
returns c =
    let a2 = c in
    let a4 = c in
    let a5 = c in
    let a7 = c in
    let a8 = c in
    let s = c in
    let b = s.requires.0 in
    let v = s.args.v in
    let t = s.args.t.now in
    let n = s.args.n in
    let u = s.args.u.now in
    let d = a2.carries-2.ensures in (
      face_decides v t n u b.symbol b.tables.symbol a8.if-n-eq1.false d.0 (omega (arith, s.requires.2, a7.if-o-n.false))
          (a5.step_s-p.ensures ∙ ap (step_s n u) s.requires.2) (a4.step-z.ensures.0 ∙ ap (step_s v t) s.requires.1),
      d.1,
      d.2,
    )
