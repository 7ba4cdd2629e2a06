use mathlib.Core.List.{map}
use Prim.Native.Nat.{◌+◌}
use native.Mathlib.Omega.{arith}
use lib.ListN.{length-map}
use Rattle.text.proofs.Spacing.{spaced_none, spaced_more, spaced_all, value_at, room_left}
use Rattle.text.proofs.line.put_each.Goals as goal

pub loop-x-init : goal.loop-x-init
loop-x-init g c =
    spaced_none (g.T.Decimal.most + 1) (map g.T.Decimal.value c.args.xs.now) c.args.at c.args.out.now

pub put_spaced-end-requires : goal.put_spaced-end-requires
put_spaced-end-requires g c = let q = c.loop-x.invariant in
    let room = room_left c.args.at g.met.T.Decimal.short c.loop-x-test.true q.most c.requires in
    omega (arith, q.same, room)

pub loop-x-preserved : goal.loop-x-preserved
loop-x-preserved g c =
    let value = g.T.Decimal.value in
    let xs = c.args.xs.now in
    let q = c.loop-x in
    let e = c.put_spaced-end.ensures in
    let room = room_left c.args.at g.met.T.Decimal.short c.loop-x-test.true q.invariant.most c.requires in
    spaced_more q.invariant (omega (arith, length-map xs value)) (value_at value xs q.x-index (omega arith) c.x-item.is)
    e.0 (omega (arith, e.1, q.invariant.same, room, g.met.T.Decimal.short)) e.1

pub returns : goal.returns
returns g c =
    let value = g.T.Decimal.value in
    let xs = c.args.xs.now in
    rw (length-map xs value) at (spaced_all c.loop-x.invariant (omega (arith, length-map xs value, c.loop-x-test.false)))
