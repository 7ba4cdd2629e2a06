-- `split_top` splits the first side to do: its point m gives way to the S images of m turned by Q, once and twice, which are points of the
-- tables again (`low_Q`, `low_S`), and what is left is the split by definition (`split_by_lem`). Assumes nothing.
use Rattle.import_sides.proofs.Turn.{held_length, low_is, split_by_lem}
use Rattle.permutations.specs.Pair.{image}
use Rattle.import_rule.specs.Fixed.{by_q}
use mathlib.Core.Path.{◌≡◌, refl, sym, ◌∙◌, ap}
use native.Mathlib.Omega.{arith}
use lib.ListN.{length, length-set}
use Prim.Native.Nat.{◌+◌, ◌*◌, ◌-◌}
use Rattle.permutations.proofs.Images.{low_S}
use Rattle.import_rule.proofs.Images.{low_Q}
use Rattle.import_sides.proofs.Cells.{cell_length}
use borrow.Author.Rules.{rules}
use Rattle.import_sides.proofs.walk.split_top.Goals as goal

pub hold-requires : goal.hold-requires
hold-requires c =
    let s = c in
    let z = s.requires in
    let mlow = low_is _ _ _ c.point_at-m.ensures.0 z.3 in
    let plow = low_Q _ _ z.0 _ _ mlow c.turned-p.ensures in
    let qlow = low_Q _ _ z.0 _ _ plow c.turned-q.ensures in
    let alow = (low_S _ _ z.0 _ _ plow c.image-a.ensures).0 in
    let blow = (low_S _ _ z.0 _ _ qlow c.image-b.ensures).0 in
    let mo = z.0.most in
    (omega arith, omega arith, omega arith, z.4)

pub overflow_cast-w : goal.overflow_cast-w
overflow_cast-w c =
    let s = c in
    let z = s.requires in
    let mlow = low_is _ _ _ c.point_at-m.ensures.0 z.3 in
    let plow = low_Q _ _ z.0 _ _ mlow c.turned-p.ensures in
    let qlow = low_Q _ _ z.0 _ _ plow c.turned-q.ensures in
    let blow = (low_S _ _ z.0 _ _ qlow c.image-b.ensures).0 in
    let mo = z.0.most in
    omega arith

pub put_cell-requires : goal.put_cell-requires
put_cell-requires c =
    let s = c in
    let z = s.requires in
    let mlow = low_is _ _ _ c.point_at-m.ensures.0 z.3 in
    let plow = low_Q _ _ z.0 _ _ mlow c.turned-p.ensures in
    let alow = (low_S _ _ z.0 _ _ plow c.image-a.ensures).0 in
    let mo = z.0.most in
    let ln = z.4 in (
      rw (
        length-set c.hold.new.w
            (20480 + 5 * (s.args.k - 1) + 4) _,
        c.hold.ensures,
        held_length _ _ _ _ _,
      ) (omega (arith, z.2)),
      omega
          (arith, z.2),
      z.5,
      z.6,
      omega arith,
    )

pub shape_of-w : goal.shape_of-w
shape_of-w c =
    let earlier = c in
    let s = earlier in
    let h = c.hold.new.w in
    ap length c.put_cell.ensures ∙ cell_length _ _ _ _ _ ∙ length-set h (20480 + 5 * (s.args.k - 1) + 4) _
    ∙ ap length c.hold.ensures ∙ held_length s.args.w.now _ _ _ _

pub returns : goal.returns
returns c =
    let earlier = c in
    let s = earlier in
    let sg = image s.args.s.now in
    let ka = by_q sg (image s.args.r.now) in
    split_by_lem sg ka s.args.w.now _ _ s.args.k s.args.e s.args.c _ _ _ _ _
    earlier.point_at-m.ensures.0
    earlier.turned-p.ensures
    c.turned-q.ensures
    c.image-a.ensures
    c.image-b.ensures c.hold.ensures
    c.put_cell.ensures
