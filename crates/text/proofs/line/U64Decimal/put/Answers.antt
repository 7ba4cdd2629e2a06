-- The method meets its contract: 20 bytes hold a number of 64 bits, so that `write_natural` tells its end. Assumes
-- nothing.
use native.Mathlib.Omega.{arith}
use Rattle.decimal.specs.Decimal.{digits, decimal_of}
use Rattle.decimal.proofs.Decimals.{digits_most}
use Rattle.text.proofs.Spacing.{put_whole}
use Rattle.text.proofs.line.U64Decimal.put.Goals as goal

pub returns : goal.returns
unfolding decimal_of
returns c =
    let a = c.args in
    let w = c.write_natural.ensures in
    let few = digits_most 20 a.self (omega arith) (omega arith) in
    let p = put_whole (digits a.self) a.out.now _ a.at c.write_natural.result w.0 w.1 (omega arith) in
    record { puts = rw c.unwrap_or.ensures p; within = rw c.unwrap_or.ensures (omega (arith, p.end_is)) }
