use mathlib.Core.Path.{◌∙◌}
use Prim.Native.Nat.{◌<◌}
use native.Mathlib.Omega.{arith}
use Rattle.same_coset.proofs.Runs.{none_yet, run_less, later, arrived}
use Rattle.same_coset.proofs.t_runs.go_on.Goals as goal

pub loop-x-init : goal.loop-x-init
loop-x-init c = none_yet c.requires.1

pub turn-x-requires : goal.turn-x-requires
turn-x-requires c =
    let s = c in
    (s.requires.0, c.loop-x.invariant.sound, omega (arith, c.loop-x-test.true))

pub loop-x-smaller : goal.loop-x-smaller
loop-x-smaller c =
    let s = c in
    run_less s.requires.0 c.loop-x.invariant.sound (omega (arith, c.loop-x-test.true)) c.turn-x.ensures

pub loop-x-preserved : goal.loop-x-preserved
loop-x-preserved c =
    let s = c in
    let l = c.loop-x.invariant in
    let h : 0 < c.loop-x.x.c = omega (arith, c.loop-x-test.true) in
    later s.requires.0 l.sound h c.turn-x.ensures l

pub finish-requires : goal.finish-requires
finish-requires c = let s = c in (s.requires.0, c.loop-x.invariant.sound)

pub returns : goal.returns
returns c =
    let l = c.loop-x.invariant in
    λ m f lead e. c.finish.ensures ∙ arrived l.sound c.loop-x-test.false (l.remains m f) lead e
