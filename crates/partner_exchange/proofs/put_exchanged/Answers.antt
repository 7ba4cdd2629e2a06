-- `put_exchanged`: the second sides are found, the table is copied, and the two labels are written over it (`put_both`). Assumes nothing.
use mathlib.Core.Path.{◌∙◌, ap}
use mathlib.Core.List.{List}
use lib.IntN.{ℤ}
use mir.Facts.{to_z-of_z}
use native.Mathlib.Omega.{arith}
use lib.ListN.{length-set}
use Rattle.symbol.proofs.Order.{behind}
use Rattle.partner_exchange.specs.Exchange.{is_free_label}
use Rattle.partner_exchange.proofs.Copied.{put_both}
use borrow.Author.Rules.{rules}
use Rattle.partner_exchange.proofs.put_exchanged.Goals as goal

pub second_side-b-requires : goal.second_side-b-requires
second_side-b-requires c =
    let s = c in
    let e = s.requires.0 in (
      e.symbol,
      behind s.args.v s.args.t.now,
      rw (to_z-of_z s.ranges.x) (ap (λ (q : List ℤ). is_free_label s.args.v q s.args.x) (behind s.args.v s.args.t.now) ∙ e.free_x),
    )

pub second_side-d-requires : goal.second_side-d-requires
second_side-d-requires c =
    let s = c in
    let e = s.requires.0 in (
      e.symbol,
      behind s.args.v s.args.t.now,
      rw (to_z-of_z s.ranges.y) (ap (λ (q : List ℤ). is_free_label s.args.v q s.args.y) (behind s.args.v s.args.t.now) ∙ e.free_y),
    )

pub bounds-out-v-2 : goal.bounds-out-v-2
bounds-out-v-2 c =
    let d = c in
    let s = d in
    simp length-set (omega (arith, d.second_side-d.ensures.1, s.requires.1, c.out-1.given))

pub returns : goal.returns
returns c =
    let k = c in
    let d = k in
    let b = d in
    let s = b in
    let e = s.requires.0 in
    put_both s.args.v s.args.t.now s.args.out.now _ b.second_side-b.result d.second_side-d.result s.args.x s.args.y _ _
    e.symbol.long b.second_side-b.ensures.1 d.second_side-d.ensures.1
    (rw (to_z-of_z s.ranges.x) at b.second_side-b.ensures.0)
    (rw (to_z-of_z s.ranges.y) at d.second_side-d.ensures.0)
    k.copy_table.ensures (to_z-of_z s.ranges.x) (to_z-of_z s.ranges.y)
