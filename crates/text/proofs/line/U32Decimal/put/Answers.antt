use native.Mathlib.Omega.{arith}
use Rattle.text.proofs.Spacing.{natural_most}
use Rattle.text.proofs.line.U32Decimal.put.Goals as goal

pub returns-clause-within : goal.returns-clause-within
returns-clause-within c =
    let few = natural_most 10 c.from.result (omega arith) (omega arith) in omega (arith, c.put.ensures.puts.end_is)
