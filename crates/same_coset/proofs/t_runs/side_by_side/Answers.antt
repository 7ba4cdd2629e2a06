use Prim.Native.Nat.{◌<◌}
use native.Mathlib.Omega.{arith}
use Rattle.same_coset.proofs.Runs.{none_yet, run_less, later}
use Rattle.same_coset.proofs.t_runs.side_by_side.Goals as goal

pub loop-x-init : goal.loop-x-init
loop-x-init c = (none_yet c.requires.1, none_yet c.requires.2)

pub turn-x-requires : goal.turn-x-requires
turn-x-requires c =
    let s = c in
    let l = c.loop-x in
    let h : (0 < l.x.c) × (0 < l.y.c) = (omega (arith, c.loop-x-test.true), omega (arith, c.if-y-ne0.true)) in
    (s.requires.0, l.invariant.0.sound, h.0)

pub turn-y-requires : goal.turn-y-requires
turn-y-requires c =
    let s = c in
    let l = c.loop-x in
    let h : (0 < l.x.c) × (0 < l.y.c) = (omega (arith, c.loop-x-test.true), omega (arith, c.if-y-ne0.true)) in
    (s.requires.0, l.invariant.1.sound, h.1)

pub loop-x-smaller : goal.loop-x-smaller
loop-x-smaller c =
    let s = c in
    let l = c.loop-x in
    let h : (0 < l.x.c) × (0 < l.y.c) = (omega (arith, c.loop-x-test.true), omega (arith, c.if-y-ne0.true)) in
    run_less s.requires.0 l.invariant.0.sound h.0 c.turn-x.ensures

pub loop-x-preserved : goal.loop-x-preserved
loop-x-preserved c =
    let s = c in
    let l = c.loop-x in
    let h : (0 < l.x.c) × (0 < l.y.c) = (omega (arith, c.loop-x-test.true), omega (arith, c.if-y-ne0.true)) in (
      later s.requires.0 l.invariant.0.sound h.0 c.turn-x.ensures l.invariant.0,
      later s.requires.0 l.invariant.1.sound h.1 c.turn-y.ensures l.invariant.1,
    )

pub returns-after-loop-x : goal.returns-after-loop-x
returns-after-loop-x c = let l = c.loop-x in record { remains_later = l.invariant.0; remains_later_2 = l.invariant.1 }

pub returns-else-y-ne0 : goal.returns-else-y-ne0
returns-else-y-ne0 c = let l = c.loop-x in record { remains_later = l.invariant.0; remains_later_2 = l.invariant.1 }
