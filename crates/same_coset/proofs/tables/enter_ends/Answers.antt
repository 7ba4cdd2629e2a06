use native.Mathlib.Omega.{arith}
use lib.ListN.{length-set}
use Rattle.same_coset.proofs.ByPlace.{ending_start, ending_asks, end_low, ending_more, ending_end}
use Rattle.same_coset.proofs.tables.enter_ends.Goals as goal

pub loop-y-init : goal.loop-y-init
loop-y-init c = ending_start c.requires

pub cusp_at-c-requires : goal.cusp_at-c-requires
cusp_at-c-requires c = ending_asks c.loop-y.invariant c.loop-y-test.true

pub overflow_add-w : goal.overflow_add-w
overflow_add-w c =
    let e = c in
    let g = e.loop-y.invariant in
    let h = e.loop-y-test.true in
    let low = end_low g h e.cusp_at-c.ensures in
    omega (arith, low)

pub overflow_cast-w : goal.overflow_cast-w
overflow_cast-w c =
    let e = c in
    let g = e.loop-y.invariant in
    let h = e.loop-y-test.true in
    let low = end_low g h e.cusp_at-c.ensures in
    record { fits = omega (arith, low) }

pub overflow_cast-w-in-loop-y : goal.overflow_cast-w-in-loop-y
overflow_cast-w-in-loop-y c =
    let e = c in
    let g = e.loop-y.invariant in
    let h = e.loop-y-test.true in
    let low = end_low g h e.cusp_at-c.ensures in
    record { fits = omega (arith, low) }

pub bounds-w-y-in-loop-y : goal.bounds-w-y-in-loop-y
bounds-w-y-in-loop-y c =
    let e = c in
    let g = e.loop-y.invariant in
    let h = e.loop-y-test.true in
    let low = end_low g h e.cusp_at-c.ensures in
    simp length-set (omega (arith, g.source.room, g.source.long))

pub loop-y-preserved : goal.loop-y-preserved
loop-y-preserved c =
    let e = c in
    let g = e.loop-y.invariant in
    ending_more g e.loop-y-test.true e.cusp_at-c.ensures

pub returns : goal.returns
returns c = let e = ending_end c.loop-y.invariant c.loop-y-test.false in record { ends_to = e.0; ends_frame = e.1 }
