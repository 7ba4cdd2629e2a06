-- `arc_of`: a d + c b and 2 b d fit 64 bits and are at most 2⁵³ in size (`cross_adds`, `twice_fits`, `cross_small`, `twice_small`). Assumes nothing.
use mir.Facts.{to_z-of_z}
use lib.Dec.{lit≤}
use native.Mathlib.Omega.{arith}
use Rattle.matrix.proofs.Bounds.{left_fits, right_fits, sum_fits}
use Rattle.drawing.proofs.Whole.{held, cross_adds, cross_small, once_fits, twice_fits, twice_small}
use Rattle.drawing.proofs.arc_of.Goals as goal

pub overflow_add-s : goal.overflow_add-s
overflow_add-s c =
    let x = c.args.s in
    let h = c.requires in
    let sum = cross_adds x h in
    rw (held x.a h.in_a, held x.d h.in_d, held x.c h.in_c, held x.b h.in_b, to_z-of_z (left_fits sum), to_z-of_z (right_fits sum))
    (sum_fits sum)

pub divided-centre-requires : goal.divided-centre-requires
divided-centre-requires c =
    let x = c.args.s in
    let h = c.requires in
    let sum = cross_adds x h in
    rw (
      held x.a h.in_a,
      held x.d h.in_d,
      held x.c h.in_c,
      held x.b h.in_b,
      to_z-of_z (left_fits sum),
      to_z-of_z (right_fits sum),
      to_z-of_z (sum_fits sum),
      to_z-of_z (once_fits x h),
      to_z-of_z (twice_fits x h),
    )
    (omega (arith, cross_small x h), omega (arith, twice_small x h))

pub divided-requires : goal.divided-requires
divided-requires c =
    let x = c.args.s in
    let h = c.requires in
    rw (held x.b h.in_b, held x.d h.in_d, to_z-of_z (once_fits x h), to_z-of_z (twice_fits x h)) (lit≤ tt, omega (arith, twice_small x h))

pub returns : goal.returns
returns c =
    let x = c.args.s in
    let h = c.requires in
    let sum = cross_adds x h in
    rw (
      c.divided-centre.ensures,
      c.divided.ensures,
      held x.a h.in_a,
      held x.d h.in_d,
      held x.c h.in_c,
      held x.b h.in_b,
      to_z-of_z (left_fits sum),
      to_z-of_z (right_fits sum),
      to_z-of_z (sum_fits sum),
      to_z-of_z (once_fits x h),
      to_z-of_z (twice_fits x h),
    )
