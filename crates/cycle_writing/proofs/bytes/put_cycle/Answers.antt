use Prim.Native.Nat.{◌+◌}
use native.Mathlib.Omega.{arith}
use Rattle.decimal.proofs.Placing.{puts_as}
use Rattle.cycle_writing.proofs.Sizes.{low_a, low_b, two_here, three_here, three_sized, sized_least}
use Rattle.cycle_writing.proofs.Placed.{two_put, three_put}
use Rattle.cycle_writing.proofs.bytes.put_cycle.Goals as goal
use Rattle.cycle_writing.proofs.bytes.put_cycle.Goals.{then-b-x, else-b-x}

pub put_behind-first-requires : goal.put_behind-first-requires
put_behind-first-requires c = let s = c.requires in omega (arith, s.1, sized_least c.args.t.now c.args.x _ _ s.0 c.image-a.ensures c.image-b.ensures)

pub overflow_add-a : goal.overflow_add-a
overflow_add-a c = let s = c.requires in
    omega (arith, low_a c.args.t.now c.args.x _ _ s.0 c.image-a.ensures c.image-b.ensures, s.0.table.most)

pub put_behind-last-requires : goal.put_behind-last-requires
put_behind-last-requires c = let s = c.requires in
    omega (
      arith,
      s.1,
      sized_least c.args.t.now c.args.x _ _ s.0 c.image-a.ensures c.image-b.ensures,
      c.put_behind-first.ensures.end_is,
      c.put_behind-first.auto.out,
    )

pub overflow_add-b : goal.overflow_add-b
overflow_add-b c = let s = c.requires in
    omega (arith, low_b c.args.t.now c.args.x _ _ s.0 c.image-a.ensures c.image-b.ensures, s.0.table.most)

pub put_behind-last-requires-then-b-x : goal.put_behind-last-requires-then-b-x
put_behind-last-requires-then-b-x c = let s = c.requires in
    omega (
      arith,
      s.1,
      three_sized c.args.t.now c.args.x _ _ s.0 c.image-a.ensures c.image-b.ensures c.if-b-x.true,
      c.put_behind-first.ensures.end_is,
      c.put_behind-first.auto.out,
      c.put_behind-last.ensures.end_is,
      c.put_behind-last.auto.out,
    )

pub put-requires : goal.put-requires
put-requires c =
    let s = c.requires in
    let f = c.put_behind-first in
    let l = c.put_behind-last in elim c.if-b-x.branch [
      | then-b-x w ↦ omega (
        arith,
        s.1,
        three_sized c.args.t.now c.args.x _ _ s.0 c.image-a.ensures c.image-b.ensures w.if-b-x.true,
        f.ensures.end_is,
        l.ensures.end_is,
        w.put_behind-last-then-b-x.ensures.end_is,
        w.last-is,
        c.if-b-x.auto.out,
      )
      | else-b-x w ↦ omega (
        arith,
        s.1,
        sized_least c.args.t.now c.args.x _ _ s.0 c.image-a.ensures c.image-b.ensures,
        f.ensures.end_is,
        l.ensures.end_is,
        w.last-is,
        c.if-b-x.auto.out,
      )
    ]

pub returns : goal.returns
returns c =
    let s = c.requires in
    let f = c.put_behind-first.ensures in
    let l = c.put_behind-last.ensures in
    let x = c.args.x in elim c.if-b-x.branch [
      | then-b-x w ↦
          let p = rw (w.last-is, w.out-is) at c.put.ensures in
          puts_as (three_here c.args.t.now x _ _ s.0 c.image-a.ensures c.image-b.ensures w.if-b-x.true)
          (three_put (x + 1) (c.image-a.result + 1) f l (omega (arith, s.1)) (c.image-b.result + 1) w.put_behind-last-then-b-x.ensures p)
      | else-b-x w ↦
          let p = rw (w.last-is, w.out-is) at c.put.ensures in
          puts_as (two_here c.args.t.now x _ _ s.0 c.image-a.ensures c.image-b.ensures w.if-b-x.false)
          (two_put (x + 1) (c.image-a.result + 1) f l (omega (arith, s.1)) p)
    ]
