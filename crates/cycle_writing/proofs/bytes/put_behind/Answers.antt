use native.Mathlib.Omega.{arith}
use Rattle.decimal.proofs.Placing.{puts_then}
use Rattle.cycle_writing.proofs.bytes.put_behind.Goals as goal

pub returns : goal.returns
returns c = puts_then c.put-from.ensures c.put_number.ensures (omega (arith, c.requires))
