-- `exchange_in_room`: 11 where the table has no room (`short_write`), and otherwise the exchanged table in front (`run_write`), which is as long as that of
-- a symbol (`trades`). Assumes nothing.
use Rattle.std.specs.Prelude.{Err}
use mathlib.Core.Path.{◌≡◌, refl, sym, ap, ◌∙◌}
use mathlib.Core.List.{[]}
use Prim.Native.Nat.{◌+◌, ◌*◌}
use lib.ListN.{length}
use mir.Facts.{to_z-of_z}
use Rattle.partner_exchange.specs.Exchange.{exchanged}
use Rattle.call.proofs.Laws.{run_end, run_write, short_write, fills_as, room_held, room_lacks}
use Rattle.partner_exchange.proofs.Theorem.{trades}
use borrow.Author.Rules.{rules}
use Rattle.partner_exchange.proofs.exchange_in_room.Goals as goal

pub returns-in_err-room : goal.returns-in_err-room
returns-in_err-room c =
    let e : c.from_residual.result ≡ Err c.in_err-room.field-0.0 = search rules in
    let v = c.args.v in
    let u = exchanged v c.args.t.now c.args.x c.args.y in
    let lacks = room_lacks (3 * v + 1) (length c.args.out.now) (sym c.room.ensures ∙ c.in_err-room.was) in
    fills_as (short_write u c.args.out.now (3 * v + 1) (trades c.requires).accepted.long [] lacks.0 tt) (e ∙ ap Err lacks.1)

pub put_exchanged-requires : goal.put_exchanged-requires
put_exchanged-requires c =
    rw (to_z-of_z c.ranges.x, to_z-of_z c.ranges.y)
    (c.requires, room_held (3 * c.args.v + 1) (length c.args.out.now) (sym c.room.ensures ∙ c.in_ok-room.was))

pub returns : goal.returns
returns c =
    let v = c.args.v in
    let u = exchanged v c.args.t.now c.args.x c.args.y in
    fills_as
    (run_write u c.args.out.now (3 * v + 1) (trades c.requires).accepted.long [] _
    (room_held (3 * v + 1) (length c.args.out.now) (sym c.room.ensures ∙ c.in_ok-room.was))
    (rw (to_z-of_z c.ranges.x, to_z-of_z c.ranges.y) at c.put_exchanged.ensures) run_end) refl
