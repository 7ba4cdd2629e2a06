-- `follow_lone`, arm by arm (`told-…`). Assumes nothing.
use borrow.Author.Rules.{rules}
use native.Mathlib.Omega.{arith}
use Rattle.polygon.proofs.Polygon.{polygon}
use Rattle.containment.proofs.Decided.{told_low, told_step_low, told_one, told_two}
use Rattle.containment.proofs.following.follow_lone.Goals as goal

pub step-z-requires : goal.step-z-requires
step-z-requires c =
    let s = c in
    let b = s.requires.0 in
    let v = s.args.v in
    let t = s.args.t.now in
    let n = s.args.n in
    let u = s.args.u.now in
    (b.symbol, b.steps, rw s.requires.2 (polygon v t b.symbol).walks.origin)

pub step_s-q-requires : goal.step_s-q-requires
step_s-q-requires c =
    let s = c in
    let b = s.requires.0 in
    let v = s.args.v in
    let t = s.args.t.now in
    let n = s.args.n in
    let u = s.args.u.now in
    (b.tables, rw s.requires.3 (polygon n u b.tables.symbol).walks.origin)

pub returns-then-y-b : goal.returns-then-y-b
returns-then-y-b c =
    let a2 = c in
    let s = c in
    let b = s.requires.0 in
    let v = s.args.v in
    let t = s.args.t.now in
    let n = s.args.n in
    let u = s.args.u.now in
    told_low v t n u b.symbol b.tables.symbol s.requires.1 _ _ _ _ s.requires.2 s.requires.3 a2.step-z.ensures.0 c.step_s-q.ensures
    c.if-y-b.true

pub returns-then-z-b : goal.returns-then-z-b
returns-then-z-b c =
    let a2 = c in
    let a3 = c in
    let s = c in
    let b = s.requires.0 in
    let v = s.args.v in
    let t = s.args.t.now in
    let n = s.args.n in
    let u = s.args.u.now in
    told_step_low v t n u b.symbol b.tables.symbol s.requires.1 _ _ _ _ s.requires.2 s.requires.3 a3.step-z.ensures.0 a2.step_s-q.ensures
    c.if-z-b.true

pub returns-then-q-o : goal.returns-then-q-o
returns-then-q-o c =
    let a2 = c in
    let a3 = c in
    let a4 = c in
    let s = c in
    let b = s.requires.0 in
    let v = s.args.v in
    let t = s.args.t.now in
    let n = s.args.n in
    let u = s.args.u.now in
    told_one v t n u b.symbol b.tables.symbol s.requires.1 _ _ _ _ s.requires.2 s.requires.3 a4.step-z.ensures.0 a3.step_s-q.ensures
    (omega (arith, a2.if-y-b.false)) (omega (arith, c.if-z-b.false)) c.if-q-o.true

pub returns : goal.returns
returns c =
    let a2 = c in
    let a3 = c in
    let a4 = c in
    let s = c in
    let b = s.requires.0 in
    let v = s.args.v in
    let t = s.args.t.now in
    let n = s.args.n in
    let u = s.args.u.now in
    told_two v t n u b.symbol b.tables.symbol s.requires.1 _ _ _ _ s.requires.2 s.requires.3 a4.step-z.ensures.0 a3.step_s-q.ensures
    (omega (arith, a2.if-y-b.false)) (omega (arith, c.if-z-b.false)) c.if-q-o.false
