-- `copy_columns` tests the result spaces of cusps and of steps in this order and copies only when both have room, so that a refusal leaves each as it
-- was (`both_first` .. `both_room`). Assumes nothing.
use Rattle.std.specs.Prelude.{Err}
use mathlib.Core.Path.{◌≡◌, refl, sym, ap, ◌∙◌}
use Prim.Native.Nat.{ℕ, ◌≤◌}
use native.Mathlib.Omega.{arith}
use lib.ListN.{length}
use mathlib.Core.List.{List}
use Rattle.call.specs.Space.{entries, work_length}
use Rattle.call.proofs.Laws.{fills_as, room_held, room_lacks}
use Rattle.numbering.proofs.Space.{entries_length}
use Rattle.cusp_record.specs.Inner.Fill.{CUSPS, STEPS}
use Rattle.coset.proofs.Stored.{both_first, both_second, both_room}
use borrow.Author.Rules.{rules}
use Rattle.cusp_record.proofs.copy_columns.Goals as goal

-- the columns in the work space
module _ (n : ℕ) (w : List ℕ) (few : n ≤ 4096) (long : work_length ≤ length w) where
  cusps_long : length (entries CUSPS n w) ≡ n
  cusps_long = entries_length CUSPS n w (omega (arith, few, long))

  steps_long : length (entries STEPS n w) ≡ n
  steps_long = entries_length STEPS n w (omega (arith, few, long))

pub returns-in_err-room : goal.returns-in_err-room
returns-in_err-room c =
    let e : c.from_residual.result ≡ Err c.in_err-room.field-0.0 = search rules in
    let n = c.args.n in
    let w = c.args.w.now in
    let lacks = room_lacks n (length c.args.cusps.now) (sym c.room.ensures ∙ c.in_err-room.was) in
    fills_as
    (both_first n (entries CUSPS n w) (entries STEPS n w) c.args.cusps.now c.args.steps.now (cusps_long n w c.requires.0 c.requires.1)
    (steps_long n w c.requires.0 c.requires.1) lacks.0) (e ∙ ap Err lacks.1)

pub returns-in_err-room-2 : goal.returns-in_err-room-2
returns-in_err-room-2 c =
    let e : c.from_residual-in_err-room-2.result ≡ Err c.in_err-room-2.field-0.0 = search rules in
    let n = c.args.n in
    let w = c.args.w.now in
    let lacks = room_lacks n (length c.args.steps.now) (sym c.room-2.ensures ∙ c.in_err-room-2.was) in
    fills_as
    (both_second n (entries CUSPS n w) (entries STEPS n w) c.args.cusps.now c.args.steps.now (cusps_long n w c.requires.0 c.requires.1)
    (steps_long n w c.requires.0 c.requires.1) (room_held n (length c.args.cusps.now) (sym c.room.ensures ∙ c.in_ok-room.was)) lacks.0)
    (e ∙ ap Err lacks.1)

pub returns : goal.returns
returns c =
    let n = c.args.n in
    let w = c.args.w.now in
    fills_as
    (both_room n (entries CUSPS n w) (entries STEPS n w) c.args.cusps.now c.args.steps.now (cusps_long n w c.requires.0 c.requires.1)
    (steps_long n w c.requires.0 c.requires.1) (room_held n (length c.args.cusps.now) (sym c.room.ensures ∙ c.in_ok-room.was))
    (room_held n (length c.args.steps.now) (sym c.room-2.ensures ∙ c.in_ok-room-2.was)) c.copy_out.ensures c.copy_out-2.ensures) refl
