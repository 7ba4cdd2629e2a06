use borrow.Author.Rules.{rules}
use Prim.Native.Nat.{◌-◌, ◌≤◌}
use native.Mathlib.Omega.{arith}
use Rattle.coset.proofs.Work.{image_low}
use Rattle.containment.proofs.Corners.{StepsTo, steps_none, steps_more, steps_all}
use Rattle.containment.proofs.following.hold_steps.Goals as goal

pub loop-p-init : goal.loop-p-init
loop-p-init c = (steps_none c.requires.1, omega arith)

pub overflow_cast-s : goal.overflow_cast-s
overflow_cast-s c =
    let s = c in
    let l = c in
    omega (arith, c.image_s-q.ensures, image_low l.loop-p.p s.requires.0 c.loop-p-test.true, s.requires.0.symbol.most)

pub loop-p-preserved : goal.loop-p-preserved
loop-p-preserved c =
    let s = c in
    let l = c in
    let h = c.loop-p-test.true in
    (steps_more l.loop-p.p c.image_s-q.result l.loop-p.invariant.0 (omega (arith, h, s.requires.0.symbol.most)) c.image_s-q.ensures, omega (arith, h))

pub returns : goal.returns
returns c =
    let l = c in
    steps_all l.loop-p.p l.loop-p.invariant.0 (omega (arith, c.loop-p-test.false))
