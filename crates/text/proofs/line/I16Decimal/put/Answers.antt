use mathlib.Core.Path.{◌∙◌}
use mir.Facts.{to_z-of_z}
use native.Mathlib.Omega.{arith}
use Rattle.text.proofs.Spacing.{letter_most, wider}
use Rattle.text.proofs.line.I16Decimal.put.Goals as goal

pub returns-clause-within : goal.returns-clause-within
returns-clause-within c =
    let few = letter_most c.args.self c.ranges.self in
    let value = c.from.ensures ∙ to_z-of_z c.ranges.self in
    let end = rw (value, to_z-of_z (wider c.ranges.self)) at c.put.ensures.puts.end_is in
    omega arith
