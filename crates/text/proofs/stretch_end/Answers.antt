use mathlib.Core.Path.{◌≡◌}
use native.Mathlib.Omega.{arith}
use lib.ListN.{length}
use Rattle.text.proofs.Blanks.{test_fails, test_passes, stretch_more, stretch_here, stretch_end}
use Rattle.text.proofs.stretch_end.Goals as goal

pub returns-then-blank-kind : goal.returns-then-blank-kind
returns-then-blank-kind c = let a = c.args in
    let g = rw c.blank.ensures at (test_fails _ c.if-blank-kind.true) in
    omega (arith, stretch_here a.kind a.text.now c.loop-i.i c.loop-i-test.true g)

pub loop-i-preserved : goal.loop-i-preserved
loop-i-preserved c = let a = c.args in
    let g = rw c.blank.ensures at (test_passes _ c.if-blank-kind.false) in
    omega (arith, stretch_more a.kind a.text.now c.loop-i.i c.loop-i-test.true g)

pub returns : goal.returns
returns c = let a = c.args in
    let t = a.text.now in
    let e : c.loop-i.i ≡ length t = omega arith in
    let q = rw e at c.loop-i.invariant in
    omega (arith, stretch_end a.kind t, q)
