-- `preview_exchanged`: 11 where the work space is too short (`short_work`); otherwise the exchanged table, the front of an array (`front`), is a symbol
-- (`trades`), and what is asked of it is the answer (`asked_of`). Assumes nothing.
use Rattle.std.specs.Prelude.{Err}
use Rattle.call.specs.Space.{work_length}
use mathlib.Core.Path.{◌≡◌, refl, sym, ◌∙◌, ap}
use Prim.Native.Nat.{◌+◌, ◌*◌}
use native.Mathlib.Omega.{arith}
use lib.ListN.{length, take}
use mir.Facts.{to_z-of_z}
use Rattle.call.proofs.Laws.{run_work, short_work, fills_as, ran, room_held, room_lacks}
use Rattle.partner_exchange.specs.Exchange.{exchanged}
use Rattle.partner_exchange.proofs.Theorem.{trades}
use Rattle.partner_exchange.proofs.Answered.{front, asked_of}
use borrow.Author.Rules.{rules}
use Rattle.partner_exchange.proofs.preview_exchanged.Goals.{After-put_exchanged}
use Rattle.partner_exchange.proofs.preview_exchanged.Goals as goal

pub returns-in_err-room : goal.returns-in_err-room
returns-in_err-room c =
    let e : c.from_residual.result ≡ Err c.in_err-room.field-0.0 = search rules in
    let lacks = room_lacks work_length (length c.args.w.now) (sym c.room.ensures ∙ c.in_err-room.was) in
    fills_as (short_work c.args.w.now _ lacks.0 (refl, tt)) (e ∙ ap Err lacks.1)

pub put_exchanged-requires : goal.put_exchanged-requires
put_exchanged-requires c =
    let s = c in
    rw (to_z-of_z s.ranges.x, to_z-of_z s.ranges.y) (s.requires, omega (arith, s.requires.symbol.most))

-- the front of the array is the exchanged table
made : (q : After-put_exchanged) → take (3 * q.args.v + 1) q.put_exchanged.new.out
    ≡ exchanged q.args.v q.args.t.now
    q.args.x q.args.y
made q =
    let s = q in
    let v = s.args.v in
    let t = s.args.t.now in
    front v (exchanged v t s.args.x s.args.y) _ _ (trades s.requires).accepted.long
    (rw (to_z-of_z s.ranges.x, to_z-of_z s.ranges.y) at q.put_exchanged.ensures)

pub slice_bounds-ask-end : goal.slice_bounds-ask-end
slice_bounds-ask-end c =
    let q = c in
    let s = q in
    sym (ap length (made (goal.at.slice_bounds-ask-end c).After-put_exchanged) ∙ (trades s.requires).accepted.long)

pub ask-requires : goal.ask-requires
ask-requires c =
    let q = c in
    let i = q in
    let s = i in
    (rw (made (goal.at.ask-requires c).After-put_exchanged) (trades s.requires).accepted, (room_held work_length (length i.args.w.now) (sym i.room.ensures ∙ i.in_ok-room.was)))

pub returns : goal.returns
returns c =
    let k = c in
    let q = k in
    let i = q in
    let s = i in
    let v = s.args.v in
    let u = exchanged v s.args.t.now s.args.x s.args.y in
    let g = asked_of v _ u s.args.out.now k.ask.ensures.fills (made (goal.at.returns c).After-put_exchanged) in
    fills_as (run_work s.args.w.now _ _ (room_held work_length (length i.args.w.now) (sym i.room.ensures ∙ i.in_ok-room.was)) k.ask.ensures.w_after (ran g)) g.answer
