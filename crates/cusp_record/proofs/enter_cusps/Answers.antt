use mathlib.Core.Path.{refl}
use Prim.Native.Nat.{◌-◌}
use native.Mathlib.Omega.{arith}
use lib.ListN.{length-set}
use Rattle.figures.specs.Inner.Scan.{held_t}
use Rattle.cusp_record.proofs.Fill.{Filling, filling_start, filling_lists, filling_at, x_low, number_low, first_low, entered_more, filled}
use borrow.Author.Rules.{rules}
use Rattle.cusp_record.proofs.enter_cusps.Goals as goal

pub loop-y-init : goal.loop-y-init
loop-y-init c = filling_start c.requires refl refl c.index-width.ensures

pub advance-c-requires : goal.advance-c-requires
advance-c-requires c = let g = c.loop-y.invariant in (filling_lists g, filling_at g, c.loop-y-test.true)

pub overflow_cast-w : goal.overflow_cast-w
overflow_cast-w c =
    let a = c.advance-c.ensures in
    let l = c.loop-y.invariant in
    let h = c.loop-y-test.true in
    let i = c.index-x.ensures in
    let k = number_low l h a i in
    record { fits = omega arith }

pub overflow_add-w : goal.overflow_add-w
overflow_add-w c =
    let a = c.advance-c.ensures in
    let l = c.loop-y.invariant in
    let h = c.loop-y-test.true in
    let i = c.index-x.ensures in
    omega (arith, x_low l h a i, l.lists.room)

pub offset_bounds-w-x : goal.offset_bounds-w-x
offset_bounds-w-x c =
    let a = c.advance-c.ensures in
    let l = c.loop-y.invariant in
    let h = c.loop-y-test.true in
    let i = c.index-x.ensures in
    omega (arith, x_low l h a i, l.lists.room)

pub bounds-w-x : goal.bounds-w-x
bounds-w-x c =
    let a = c.advance-c.ensures in
    let l = c.loop-y.invariant in
    let h = c.loop-y-test.true in
    let i = c.index-x.ensures in
    omega (arith, x_low l h a i, l.lists.room, l.lists.long)

pub overflow_add-w-in-loop-y : goal.overflow_add-w-in-loop-y
overflow_add-w-in-loop-y c =
    let a = c.advance-c.ensures in
    let l = c.loop-y.invariant in
    let h = c.loop-y-test.true in
    let i = c.index-x.ensures in
    omega (arith, x_low l h a i, l.lists.room)

pub offset_bounds-w-x-in-loop-y : goal.offset_bounds-w-x-in-loop-y
offset_bounds-w-x-in-loop-y c =
    let a = c.advance-c.ensures in
    let l = c.loop-y.invariant in
    let h = c.loop-y-test.true in
    let i = c.index-x.ensures in
    omega (arith, x_low l h a i, l.lists.room)

pub bounds-w-x-in-loop-y : goal.bounds-w-x-in-loop-y
bounds-w-x-in-loop-y c =
    let a = c.advance-c.ensures in
    let l = c.loop-y.invariant in
    let h = c.loop-y-test.true in
    let i = c.index-x.ensures in
    simp length-set (omega (arith, x_low l h a i, l.lists.room, l.lists.long))

pub loop-y-preserved : goal.loop-y-preserved
loop-y-preserved c =
    let a = c.advance-c.ensures in
    let l = c.loop-y.invariant in
    let h = c.loop-y-test.true in
    let i = c.index-x.ensures in
    entered_more l h a i

pub returns : goal.returns
returns c = filled c.loop-y.invariant c.loop-y-test.false
