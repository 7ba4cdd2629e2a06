use mathlib.Core.Path.{◌≡◌, refl, sym, ◌∙◌}
use Prim.Native.Nat.{◌+◌, ◌-◌, ◌≤◌, ◌<◌}
use native.Mathlib.Omega.{arith}
use lib.ListN.{length}
use Rattle.polygon.specs.Cut.{places}
use Rattle.coset.specs.Inner.Work.{FilledR}
use Rattle.coset.proofs.Work.{turned_none, c_low, turned_more, turned_all}
use borrow.Author.Rules.{rules}
use Rattle.coset.proofs.arrange.fill_r.Goals as goal

pub loop-p-init : goal.loop-p-init
loop-p-init c = (turned_none c.args.v c.args.w.now, search rules)

pub overflow_add-w : goal.overflow_add-w
overflow_add-w c =
    let d = c in
    let b = d in
    let a = b in
    let i = a in
    let l = i in
    let s = l.requires in
    omega (
      arith,
      c_low s l.loop-p.invariant.0 i.loop-p-test.true a.index-a.result b.turn_q-b.result d.turn_q-c.result a.index-a.ensures
          b.turn_q-b.ensures d.turn_q-c.ensures,
      s.most,
      s.long,
      l.loop-p.invariant.0.same,
    )

pub offset_bounds-w-c : goal.offset_bounds-w-c
offset_bounds-w-c c =
    let d = c in
    let b = d in
    let a = b in
    let i = a in
    let l = i in
    let s = l.requires in
    omega (
      arith,
      c_low s l.loop-p.invariant.0 i.loop-p-test.true a.index-a.result b.turn_q-b.result d.turn_q-c.result a.index-a.ensures
          b.turn_q-b.ensures d.turn_q-c.ensures,
      s.most,
      s.long,
      l.loop-p.invariant.0.same,
    )

pub bounds-w-c : goal.bounds-w-c
bounds-w-c c =
    let d = c in
    let b = d in
    let a = b in
    let i = a in
    let l = i in
    let s = l.requires in
    omega (
      arith,
      c_low s l.loop-p.invariant.0 i.loop-p-test.true a.index-a.result b.turn_q-b.result d.turn_q-c.result a.index-a.ensures
          b.turn_q-b.ensures d.turn_q-c.ensures,
      s.most,
      s.long,
      l.loop-p.invariant.0.same,
    )

pub loop-p-preserved : goal.loop-p-preserved
loop-p-preserved c =
    let d = c in
    let b = d in
    let a = b in
    let i = a in
    let l = i in (
      turned_more l.requires l.loop-p.invariant.0 i.loop-p-test.true a.index-a.result b.turn_q-b.result d.turn_q-c.result
          a.index-a.ensures b.turn_q-b.ensures d.turn_q-c.ensures,
      omega arith,
    )

pub returns : goal.returns
returns c = let l = c in turned_all l.loop-p.p l.loop-p.invariant.0 (omega (arith, l.loop-p.invariant.1, c.loop-p-test.false))
