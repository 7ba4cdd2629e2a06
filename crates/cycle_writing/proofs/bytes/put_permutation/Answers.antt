use mathlib.Core.Path.{◌≡◌}
use native.Mathlib.Omega.{arith}
use lib.ListN.{length}
use Rattle.decimal.proofs.Placing.{puts_as}
use Rattle.cycle_writing.specs.Inner.Short.{bytes_below}
use Rattle.cycle_writing.proofs.Sizes.{cycles_are}
use Rattle.cycle_writing.proofs.Placed.{empty_put, permutation_room, empty_room}
use Rattle.cycle_writing.proofs.bytes.put_permutation.Goals as goal

pub put_cycles-end-requires : goal.put_cycles-end-requires
put_cycles-end-requires c = (c.requires.0, omega (arith, c.requires.1, permutation_room c.args.t.now))

pub put-requires : goal.put-requires
put-requires c =
    let t = c.args.t.now in
    let e = c.put_cycles-end in
    let z : length (bytes_below t (length t)) ≡ 0 = omega (arith, e.ensures.end_is, c.if-end-at.true) in
    omega (arith, empty_room t z, c.requires.1, e.auto.out)

pub returns-then-end-at : goal.returns-then-end-at
returns-then-end-at c =
    let e = rw c.if-end-at.true at c.put_cycles-end.ensures in
    empty_put c.args.t.now e (omega arith) c.put.ensures (omega (arith, c.requires.1))

pub returns-else-end-at : goal.returns-else-end-at
returns-else-end-at c =
    let e = c.put_cycles-end.ensures in
    puts_as (cycles_are c.args.t.now (λ z. c.if-end-at.false (omega (arith, e.end_is, z)))) e
