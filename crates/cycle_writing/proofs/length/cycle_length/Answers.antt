use native.Mathlib.Omega.{arith}
use Rattle.cycle_writing.proofs.Sizes.{two_sized, three_sized}
use Rattle.cycle_writing.proofs.length.cycle_length.Goals as goal

pub returns-then-b-x : goal.returns-then-b-x
returns-then-b-x c =
    let e = two_sized c.args.t.now c.args.x _ _ c.requires c.image-a.ensures c.image-b.ensures c.if-b-x.true in (
      omega (arith, e, c.digit_count-second.ensures, c.digit_count-first.ensures),
      omega (arith, c.digit_count-second.ensures, c.digit_count-first.ensures),
    )

pub returns-else-b-x : goal.returns-else-b-x
returns-else-b-x c =
    let e = three_sized c.args.t.now c.args.x _ _ c.requires c.image-a.ensures c.image-b.ensures c.if-b-x.false in (
      omega (arith, e, c.digit_count.ensures, c.digit_count-second.ensures, c.digit_count-first.ensures),
      omega (arith, c.digit_count.ensures, c.digit_count-second.ensures, c.digit_count-first.ensures),
    )
