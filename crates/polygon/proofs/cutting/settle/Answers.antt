use mathlib.Core.Bool.{true}
use mathlib.Core.Path.{◌≡◌, sym, ◌∙◌, ap}
use Prim.Native.Nat.{◌-◌, ◌+◌, ◌≤◌}
use native.Mathlib.Omega.{arith}
use lib.ListN.{length, length-set}
use Rattle.polygon.specs.Inner.Scanning.{cells_in, ready_of}
use Rattle.polygon.proofs.Space.{still}
use Rattle.polygon.proofs.Scanning.{mid_turn, mid_start, mid_end, ready_some, length_joined}
use Rattle.polygon.proofs.cutting.settle.Goals.{In-loop-top}
use Rattle.polygon.proofs.cutting.settle.Goals as goal

isReady : (c : In-loop-top)
    → ready_of c.args.t.now (cells_in c.loop-top.w c.loop-top.n)
    (c.args.i + 1) ≡ true
isReady c = sym c.ready.ensures ∙ c.loop-top-test.true

some : (c : In-loop-top) → 1 ≤ c.loop-top.n
some c = ready_some _ _ _ _ (isReady c)

pub loop-top-init : goal.loop-top-init
loop-top-init c =
    let s = c in
    mid_start s.args.t.now s.args.v s.args.w.now s.args.i s.args.before.n s.args.before.m s.requires

pub ready-requires : goal.ready-requires
ready-requires c = let l = c in
    let s = l in (
      s.requires.symbol,
      l.loop-top.invariant.cells,
      omega (arith, s.requires.next),
      omega (arith, l.loop-top.invariant.count, l.loop-top.invariant.most, l.loop-top.invariant.next),
      l.loop-top.invariant.long,
    )

pub overflow_sub-top : goal.overflow_sub-top
overflow_sub-top c = some (goal.at.overflow_sub-top c).In-loop-top

pub link-requires : goal.link-requires
link-requires c = let l = c in
    let k = some (goal.at.link-requires c).In-loop-top in
    let d = l.loop-top.invariant in (
      omega (arith, d.count, d.most, d.next),
      omega (arith, c.index-hl.ensures, d.cells.handles (l.loop-top.n - 1) (omega arith), d.most, d.next),
      d.long,
    )

pub link-requires-in-loop-top : goal.link-requires-in-loop-top
link-requires-in-loop-top c = let l = c in
    let k = some (goal.at.link-requires-in-loop-top c).In-loop-top in
    let d = l.loop-top.invariant in (
      omega (arith, d.count, d.most, d.next),
      omega (arith, d.low, d.most),
      still
          (ap length c.link.ensures ∙ length_joined l.loop-top.w _ _) d.long,
    )

pub loop-top-smaller : goal.loop-top-smaller
loop-top-smaller c = let k = some (goal.at.loop-top-smaller c).In-loop-top in omega arith

pub loop-top-preserved : goal.loop-top-preserved
loop-top-preserved c = let i = c in
    let l = i in
    let s = l in
    mid_turn s.args.t.now s.args.v s.args.w.now s.args.i s.args.before.n s.args.before.m s.requires l.loop-top.w _ _ l.loop-top.n l.loop-top.m
    l.loop-top.h _ l.loop-top.invariant (isReady (goal.at.loop-top-preserved c).In-loop-top)
    c.index-hl.ensures c.link.ensures
    c.link-in-loop-top.ensures

pub bounds-w-n-2 : goal.bounds-w-n-2
bounds-w-n-2 c = simp length-set (omega arith)

pub returns : goal.returns
returns c = let l = c in
    let s = l in
    mid_end s.args.t.now s.args.v s.args.w.now s.args.i s.args.before.n s.args.before.m s.requires l.loop-top.w l.loop-top.n l.loop-top.m
    l.loop-top.h l.loop-top.invariant (sym c.ready.ensures ∙ c.loop-top-test.false)
