use borrow.Author.Rules.{rules}
use Prim.Native.Nat.{◌-◌}
use native.Mathlib.Omega.{arith}
use Rattle.polygon.specs.Cut.{corners}
use Rattle.containment.specs.Inner.Following.{Climbed}
use Rattle.containment.proofs.Corners.{climb_start, climb_higher, climb_more, climb_end}
use Rattle.containment.proofs.following.climb.Goals as goal

pub loop-x-init : goal.loop-x-init
loop-x-init c =
    let s = c in
    let b = s.requires.0 in
    let v = s.args.v in
    let t = s.args.t.now in
    let n = s.args.n in
    let u = s.args.u.now in
    climb_start v t n u b.symbol b.tables.symbol s.args.p s.args.y _ _ s.requires.1 s.requires.2 c.corner_zero-z.ensures
    c.beyond-x.ensures

pub loop-x-smaller : goal.loop-x-smaller
loop-x-smaller c =
    let l = c in
    let s = c in
    let b = s.requires.0 in
    let v = s.args.v in
    let t = s.args.t.now in
    let n = s.args.n in
    let u = s.args.u.now in
    omega (arith, climb_higher v t n u b.symbol b.tables.symbol l.loop-x.invariant, l.loop-x.invariant.low, c.loop-x-test.true)

pub loop-x-preserved : goal.loop-x-preserved
loop-x-preserved c =
    let a2 = c in
    let a3 = c in
    let l = c in
    let s = c in
    let b = s.requires.0 in
    let v = s.args.v in
    let t = s.args.t.now in
    let n = s.args.n in
    let u = s.args.u.now in
    climb_more v t n u b.symbol b.tables.symbol l.loop-x.invariant _ _ _ a3.loop-x-test.true a2.step-a.ensures.0
    c.corner_zero-z-in-loop-x.ensures c.beyond-x-in-loop-x.ensures

pub returns : goal.returns
returns c =
    let l = c in
    let s = c in
    let b = s.requires.0 in
    let v = s.args.v in
    let t = s.args.t.now in
    let n = s.args.n in
    let u = s.args.u.now in
    (climb_end v t n u b.symbol b.tables.symbol l.loop-x.invariant (omega (arith, c.loop-x-test.false)), l.loop-x.invariant.real)
