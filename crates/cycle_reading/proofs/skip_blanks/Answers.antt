use native.Mathlib.Omega.{arith}
use Rattle.cycle_reading.proofs.Fronts.{front_more}
use Rattle.cycle_reading.proofs.skip_blanks.Goals as goal

pub loop-at-preserved : goal.loop-at-preserved
loop-at-preserved c = front_more _ _ c.loop-at.invariant (omega arith) (omega (arith, c.if-b-ne32.false))
