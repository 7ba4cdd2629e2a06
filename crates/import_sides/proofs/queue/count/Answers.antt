use native.Mathlib.Omega.{arith}
use Prim.Native.Nat.{◌-◌}
use Rattle.import_sides.proofs.Laying.{Counting, count_start, count_next, count_end}
use Rattle.import_sides.proofs.queue.count.Goals as goal

pub loop-at-init : goal.loop-at-init
loop-at-init c = count_start c.args.w.now c.args.l c.requires.0

pub overflow_sub-c : goal.overflow_sub-c
overflow_sub-c c = let n = c.loop-at-test.true in omega arith

pub overflow_add-c : goal.overflow_add-c
overflow_add-c c = let n = c.loop-at-test.true in let k = (count_next _ _ _ _ c.loop-at.invariant (omega arith)).low in omega arith

pub entry-at-requires : goal.entry-at-requires
entry-at-requires c =
    let l = c in
    let s = l in
    let n = c.loop-at-test.true in let k = (count_next _ _ _ _ l.loop-at.invariant (omega arith)).low in let z = s.requires.1 in omega arith

pub overflow_add-i : goal.overflow_add-i
overflow_add-i c = let n = c.loop-at-test.true in let k = (count_next _ _ _ _ c.loop-at.invariant (omega arith)).more in omega arith

pub loop-at-smaller : goal.loop-at-smaller
loop-at-smaller c = let n = c.loop-at-test.true in let k = (count_next _ _ _ _ c.loop-at.invariant (omega arith)).more in omega arith

pub loop-at-preserved : goal.loop-at-preserved
loop-at-preserved c = let n = c.loop-at-test.true in rw c.entry-at.ensures.0 (count_next _ _ _ _ c.loop-at.invariant (omega arith)).next

pub returns : goal.returns
returns c = count_end _ _ _ _ c.loop-at.invariant c.loop-at-test.false
