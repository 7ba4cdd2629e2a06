use borrow.Author.Rules.{rules}
use mathlib.Core.Path.{◌≡◌, refl, ◌∙◌, ap}
use Prim.Native.Nat.{◌*◌, ◌-◌, ◌≤◌}
use native.Mathlib.Omega.{arith}
use lib.ListN.{length}
use Rattle.polygon.proofs.Flip.{real_in}
use Rattle.containment.specs.Inner.Following.{ImagesLaid}
use Rattle.containment.proofs.Corners.{laid_none, next_noted, next_real, next_laid, length_laid}
use Rattle.containment.proofs.following.descend.Goals as goal

pub loop-k-init : goal.loop-k-init
loop-k-init c =
    let s = c in
    let b = s.requires.0 in
    let v = s.args.v in
    let t = s.args.t.now in
    let n = s.args.n in
    let u = s.args.u.now in
    (laid_none v t n u b.symbol b.tables.symbol s.args.root _ b.tables refl, omega arith, refl)

pub image_below-y-requires : goal.image_below-y-requires
image_below-y-requires c =
    let a3 = c in
    let l = c in
    let s = c in
    let b = s.requires.0 in
    let v = s.args.v in
    let t = s.args.t.now in
    let n = s.args.n in
    let u = s.args.u.now in
    let i = l.loop-k.invariant in (
      b.symbol,
      b.steps,
      b.tables.symbol.some,
      b.tables.symbol.most,
      i.0.tables.long,
      next_noted v t n u b.symbol b.tables.symbol i.0 a3.loop-k-test.true i.1 s.requires.1 _ c.beyond-q.ensures,
    )

pub lay-requires : goal.lay-requires
lay-requires c =
    let a3 = c in
    let a5 = c in
    let l = c in
    let s = c in
    let b = s.requires.0 in
    let v = s.args.v in
    let t = s.args.t.now in
    let n = s.args.n in
    let u = s.args.u.now in
    let i = l.loop-k.invariant in
    let r = next_real v t n u b.symbol b.tables.symbol i.0 a5.loop-k-test.true i.1 s.requires.1 _ a3.beyond-q.ensures _
    c.image_below-y.ensures in (
      b.symbol.some,
      b.symbol.most,
      omega (arith, a5.loop-k-test.true, i.1, b.tables.symbol.most),
      real_in v t b.symbol _ r,
      i.0.tables.long,
    )

pub loop-k-preserved : goal.loop-k-preserved
loop-k-preserved c =
    let a2 = c in
    let a4 = c in
    let a6 = c in
    let a8 = c in
    let l = c in
    let s = c in
    let b = s.requires.0 in
    let v = s.args.v in
    let t = s.args.t.now in
    let n = s.args.n in
    let u = s.args.u.now in
    let i = l.loop-k.invariant in (
      next_laid v t n u b.symbol b.tables.symbol i.0 a8.loop-k-test.true i.1 s.requires.1 _ a6.beyond-q.ensures _
          a4.image_below-y.ensures _ a2.lay.ensures,
      omega (arith, i.1),
      ap length a2.lay.ensures ∙ length_laid v l.loop-k.w (3 * (l.loop-k.k - 1)) _ ∙ i.2,
    )

pub returns : goal.returns
returns c =
    let l = c in
    let e : l.loop-k.k ≡ 0 = omega (arith, c.loop-k-test.false) in
    (rw e at l.loop-k.invariant.0, l.loop-k.invariant.2)
