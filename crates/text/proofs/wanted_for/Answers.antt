-- `text::wanted_for` meets its contract: a number from 0 on is its own magnitude, and the tests on that are those of
-- `wanted`. Assumes nothing.
use Prim.Native.Nat.{◌<◌}
use native.Mathlib.Omega.{arith}
use Rattle.text.proofs.Wants.{want_negative, from_zero, want_low, want_high, want_these, count_fits}
use Rattle.text.proofs.wanted_for.Goals.{then-n-from-via-then-n-from, then-n-from-via-else-n-from+then-from-n}
use Rattle.text.proofs.wanted_for.Goals as goal

pub returns-in_default : goal.returns-in_default
returns-in_default c = want_negative c.ranges.v c.args.format c.in_default.ensures

pub returns-then-n-from : goal.returns-then-n-from
returns-then-n-from c = let f = c.args.format in
    let is = from_zero c.ranges.v c.in-Ok.ensures in
    elim c.then-n-from.branch [
      | then-n-from-via-then-n-from w ↦ want_low f is (omega arith)
      | then-n-from-via-else-n-from+then-from-n w ↦ want_high f is (omega arith) (omega arith)
    ]

pub overflow_mul-result : goal.overflow_mul-result
overflow_mul-result c = let f = c.args.format in
    let each : c.from-2.result < 65536 = omega arith in
    let most : c.in-Ok.n < 65536 = omega arith in
    omega (arith, count_fits c.from-2.result c.in-Ok.n 0 each most (omega arith))

pub overflow_add-result : goal.overflow_add-result
overflow_add-result c = let f = c.args.format in
    let each : c.from-2.result < 65536 = omega arith in
    let most : c.in-Ok.n < 65536 = omega arith in
    let more : c.from-3.result < 65536 = omega arith in
    omega (arith, count_fits c.from-2.result c.in-Ok.n c.from-3.result each most more)

pub returns : goal.returns
returns c = let f = c.args.format in
    rw (c.from-2.ensures, c.from-3.ensures)
    (want_these f (from_zero c.ranges.v c.in-Ok.ensures) (omega arith) (omega arith))
