use native.Mathlib.Omega.{arith}
use Rattle.cycle_reading.proofs.Loop.{filled}
use Rattle.cycle_reading.proofs.fill_identity.Goals as goal

pub returns : goal.returns
returns c = let h = c.loop-i.invariant in filled _ 3066 h.long (λ k m. h.done k (omega (arith, h.long)))
