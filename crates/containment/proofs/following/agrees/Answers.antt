-- `agrees`, by where S leads (`agrees_in`, `agrees_not`, `agrees_out`). Assumes nothing.
use borrow.Author.Rules.{rules}
use mathlib.Core.Path.{◌∙◌, ap}
use native.Mathlib.Omega.{arith}
use Rattle.polygon.specs.Step.{step_s}
use Rattle.polygon.proofs.Flip.{real_corner}
use Rattle.containment.proofs.Corners.{agrees_in, agrees_not, agrees_out}
use Rattle.containment.proofs.following.agrees.Goals as goal

pub step_s-z-requires : goal.step_s-z-requires
step_s-z-requires c =
    let s = c in
    let b = s.requires.0 in
    let v = s.args.v in
    let t = s.args.t.now in
    let n = s.args.n in
    let u = s.args.u.now in
    (b.tables, real_corner n u s.args.p s.requires.1)

pub step-y-requires : goal.step-y-requires
step-y-requires c =
    let s = c in
    let b = s.requires.0 in
    let v = s.args.v in
    let t = s.args.t.now in
    let n = s.args.n in
    let u = s.args.u.now in
    (b.symbol, b.steps, rw c.index.ensures s.requires.2)

pub returns-then-z-n : goal.returns-then-z-n
returns-then-z-n c =
    let a2 = c in
    let a3 = c in
    let a4 = c in
    let a6 = c in
    let s = c in
    let b = s.requires.0 in
    let v = s.args.v in
    let t = s.args.t.now in
    let n = s.args.n in
    let u = s.args.u.now in
    agrees_in v t n u s.args.w.now s.args.p _ _ a6.step_s-z.ensures
    (a3.step-y.ensures.0 ∙ ap (step_s v t) a4.index.ensures) _ c.index-then-z-n.ensures a2.if-z-n.true

pub returns-then-y-v : goal.returns-then-y-v
returns-then-y-v c =
    let s = c in
    let b = s.requires.0 in
    let v = s.args.v in
    let t = s.args.t.now in
    let n = s.args.n in
    let u = s.args.u.now in
    agrees_not v t n u s.args.w.now s.args.p _ _ c.step_s-z.ensures
    (c.step-y.ensures.0 ∙ ap (step_s v t) c.index.ensures) (omega (arith, c.if-z-n.false)) c.if-y-v.true

pub returns : goal.returns
returns c =
    let a2 = c in
    let a3 = c in
    let a5 = c in
    let s = c in
    let b = s.requires.0 in
    let v = s.args.v in
    let t = s.args.t.now in
    let n = s.args.n in
    let u = s.args.u.now in
    agrees_out v t n u s.args.w.now s.args.p _ _ a5.step_s-z.ensures
    (a2.step-y.ensures.0 ∙ ap (step_s v t) a3.index.ensures) (omega (arith, c.if-z-n.false)) (omega (arith, c.if-y-v.false))
