use native.Mathlib.Omega.{arith}
use native.Mathlib.Nat.{mod-lt}
use Rattle.congruence.proofs.Euclid.{euclid_start, euclid_0, euclid_1, euclid_end_0, euclid_end_1}
use Rattle.congruence.proofs.modular.common_divisor.Goals as goal

pub loop-r1-init : goal.loop-r1-init
loop-r1-init c = (euclid_start c.requires.0 c.requires.1, c.requires.1)

pub returns-then-r0-eq0 : goal.returns-then-r0-eq0
returns-then-r0-eq0 c = euclid_end_0 (euclid_0 c.loop-r1.invariant.0 (omega arith)) c.if-r0-eq0.true (omega arith)

pub loop-r1-preserved : goal.loop-r1-preserved
loop-r1-preserved c =
    let loop = c.loop-r1 in
    (euclid_1 (euclid_0 loop.invariant.0 (omega arith)) (omega arith), mod-lt loop.r1 (omega arith))

pub returns : goal.returns
returns c = euclid_end_1 c.loop-r1.invariant.0 (omega arith) (omega (arith, c.loop-r1.invariant.1))
