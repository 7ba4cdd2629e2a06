use native.Mathlib.Omega.{arith}
use Rattle.same_coset.proofs.ByPlace.{turning_start, point_low, image_low, turn_here, turning_more, turning_end}
use Rattle.same_coset.proofs.tables.enter_turns.Goals as goal

pub loop-y-init : goal.loop-y-init
loop-y-init c = turning_start c.requires

pub overflow_add-x : goal.overflow_add-x
overflow_add-x c =
    let e = c in
    let g = e.loop-y.invariant.source in
    let low = point_low g e.loop-y-test.true e.index-x.ensures in
    omega (arith, low, g.room)

pub offset_bounds-w-x : goal.offset_bounds-w-x
offset_bounds-w-x c =
    let e = c in
    let g = e.loop-y.invariant.source in
    let low = point_low g e.loop-y-test.true e.index-x.ensures in
    omega (arith, low, g.room)

pub bounds-w-x : goal.bounds-w-x
bounds-w-x c =
    let e = c in
    let g = e.loop-y.invariant.source in
    let low = point_low g e.loop-y-test.true e.index-x.ensures in
    omega (arith, low, g.room, g.long)

pub overflow_add-w : goal.overflow_add-w
overflow_add-w c =
    let e = c in
    let x = e in
    let g = x.loop-y.invariant.source in
    let low = image_low g x.loop-y-test.true x.index-x.ensures e.index-z.ensures in
    omega (arith, low, g.room)

pub offset_bounds-w-z : goal.offset_bounds-w-z
offset_bounds-w-z c =
    let e = c in
    let x = e in
    let g = x.loop-y.invariant.source in
    let low = image_low g x.loop-y-test.true x.index-x.ensures e.index-z.ensures in
    omega (arith, low, g.room)

pub bounds-w-z : goal.bounds-w-z
bounds-w-z c =
    let e = c in
    let x = e in
    let g = x.loop-y.invariant.source in
    let low = image_low g x.loop-y-test.true x.index-x.ensures e.index-z.ensures in
    omega (arith, low, g.room, g.long)

pub loop-y-preserved : goal.loop-y-preserved
loop-y-preserved c =
    let e = c in
    let x = e in
    let l = x.loop-y.invariant in
    let h = x.loop-y-test.true in
    turning_more l h (turn_here l.source h x.index-x.ensures e.index-z.ensures)

pub returns : goal.returns
returns c = let e = turning_end c.loop-y.invariant c.loop-y-test.false in record { turns_at = e.0; changed_within = e.1 }
