use borrow.Author.Rules.{rules}
use mathlib.Core.Path.{◌≡◌, ◌∙◌, ap}
use Prim.Native.Nat.{◌+◌, ◌-◌, ◌≤◌}
use native.Mathlib.Omega.{arith}
use Rattle.basics.specs.Count.{count}
use Rattle.basics.proofs.Count.{count_le}
use Rattle.polygon.specs.Cut.{corners}
use Rattle.polygon.specs.Step.{odd_at}
use Rattle.containment.proofs.Corners.{count_more}
use Rattle.containment.proofs.inclusion.index_of.Goals as goal

pub loop-i-init : goal.loop-i-init
loop-i-init c = (omega arith, omega arith)

pub count_odd-k-requires : goal.count_odd-k-requires
count_odd-k-requires c =
    let l = c in
    let s = c in
    let v = s.args.v in
    let h = c.loop-i-test.true in
    (s.requires, omega (arith, h), omega (arith, h, l.loop-i.invariant.1, count_le (odd_at v s.args.t.now) l.loop-i.i, s.requires.most))

pub loop-i-preserved : goal.loop-i-preserved
loop-i-preserved c =
    let l = c in
    let s = c in
    let v = s.args.v in
    (omega (arith, c.loop-i-test.true), count_more (odd_at v s.args.t.now) (corners v) l.loop-i.i _ _ l.loop-i.invariant.1 c.count_odd-k.ensures)

pub returns : goal.returns
returns c =
    let l = c in
    let s = c in
    let e : l.loop-i.i ≡ s.args.v + 1 = omega (arith, c.loop-i-test.false, l.loop-i.invariant.0) in
    rw e at l.loop-i.invariant.1
