-- The method meets its contract: 20 bytes hold a number of 64 signed bits, so that `write` tells its end. Assumes
-- nothing.
use native.Mathlib.Omega.{arith}
use mir.Facts.{to_z-of_z}
use Rattle.decimal.specs.Decimal.{decimal_of}
use Rattle.decimal.proofs.Decimals.{integer_most}
use Rattle.text.proofs.Spacing.{put_whole}
use Rattle.text.proofs.line.I64Decimal.put.Goals as goal

pub returns : goal.returns
returns c =
    let a = c.args in
    let w = rw (to_z-of_z c.ranges.self) at c.write.ensures in
    let few = integer_most a.self c.ranges.self in
    let p = put_whole (decimal_of a.self) a.out.now _ a.at c.write.result w.0 w.1 (omega arith) in
    record { puts = rw c.unwrap_or.ensures p; within = rw c.unwrap_or.ensures (omega (arith, p.end_is)) }
