-- `copy_tables` tests the result spaces of S, R and T in this order and copies only when all three have room, so that a refusal leaves each
-- as it was (`three_first` .. `three_room`). Assumes nothing.
use Rattle.std.specs.Prelude.{Err}
use mathlib.Core.Path.{◌≡◌, refl, sym, ap, ◌∙◌}
use mathlib.Core.List.{List}
use Prim.Native.Nat.{ℕ, ◌≤◌}
use native.Mathlib.Omega.{arith}
use lib.ListN.{length}
use Rattle.call.specs.Space.{work_length, entries}
use Rattle.call.proofs.Laws.{fills_as, room_held, room_lacks}
use Rattle.numbering.specs.Inner.Space.{S_TABLE, R_TABLE, T_TABLE}
use Rattle.numbering.proofs.Space.{entries_length}
use Rattle.coset.proofs.Stored.{three_first, three_second, three_third, three_room}
use borrow.Author.Rules.{rules}
use Rattle.coset.proofs.copy_tables.Goals as goal

module _ (n : ℕ) (w : List ℕ) (few : n ≤ 4096) (long : work_length ≤ length w) where
  long_S : length (entries S_TABLE n w) ≡ n
  long_S = entries_length S_TABLE n w (omega (arith, few, long))

  long_R : length (entries R_TABLE n w) ≡ n
  long_R = entries_length R_TABLE n w (omega (arith, few, long))

  long_T : length (entries T_TABLE n w) ≡ n
  long_T = entries_length T_TABLE n w (omega (arith, few, long))

-- the spaces, in the order of their checks: each is as it was where one refuses
pub returns-in_err-room : goal.returns-in_err-room
returns-in_err-room c =
    let e : c.from_residual.result ≡ Err c.in_err-room.field-0.0 = search rules in
    let n = c.args.n in
    let w = c.args.w.now in
    let k = room_lacks n (length c.args.s.now) (sym c.room.ensures ∙ c.in_err-room.was) in
    fills_as (three_first n (entries S_TABLE n w) (entries R_TABLE n w) (entries T_TABLE n w) c.args.s.now c.args.r.now c.args.u.now
    (long_S n w c.requires.0 c.requires.1) (long_R n w c.requires.0 c.requires.1) (long_T n w c.requires.0 c.requires.1) k.0) (e ∙ ap Err k.1)

pub returns-in_err-room-2 : goal.returns-in_err-room-2
returns-in_err-room-2 c =
    let e : c.from_residual-in_err-room-2.result ≡ Err c.in_err-room-2.field-0.0 = search rules in
    let n = c.args.n in
    let w = c.args.w.now in
    let k = room_lacks n (length c.args.r.now) (sym c.room-2.ensures ∙ c.in_err-room-2.was) in
    fills_as (three_second n (entries S_TABLE n w) (entries R_TABLE n w) (entries T_TABLE n w) c.args.s.now c.args.r.now c.args.u.now
    (long_S n w c.requires.0 c.requires.1) (long_R n w c.requires.0 c.requires.1) (long_T n w c.requires.0 c.requires.1)
    (room_held n (length c.args.s.now) (sym c.room.ensures ∙ c.in_ok-room.was)) k.0) (e ∙ ap Err k.1)

pub returns-in_err-room-3 : goal.returns-in_err-room-3
returns-in_err-room-3 c =
    let e : c.from_residual-in_err-room-3.result ≡ Err c.in_err-room-3.field-0.0 = search rules in
    let n = c.args.n in
    let w = c.args.w.now in
    let k = room_lacks n (length c.args.u.now) (sym c.room-3.ensures ∙ c.in_err-room-3.was) in
    fills_as (three_third n (entries S_TABLE n w) (entries R_TABLE n w) (entries T_TABLE n w) c.args.s.now c.args.r.now c.args.u.now
    (long_S n w c.requires.0 c.requires.1) (long_R n w c.requires.0 c.requires.1) (long_T n w c.requires.0 c.requires.1)
    (room_held n (length c.args.s.now) (sym c.room.ensures ∙ c.in_ok-room.was))
    (room_held n (length c.args.r.now) (sym c.room-2.ensures ∙ c.in_ok-room-2.was)) k.0) (e ∙ ap Err k.1)

pub returns : goal.returns
returns c =
    let n = c.args.n in
    let w = c.args.w.now in
    fills_as (three_room n (entries S_TABLE n w) (entries R_TABLE n w) (entries T_TABLE n w) c.args.s.now c.args.r.now c.args.u.now
    (long_S n w c.requires.0 c.requires.1) (long_R n w c.requires.0 c.requires.1) (long_T n w c.requires.0 c.requires.1)
    (room_held n (length c.args.s.now) (sym c.room.ensures ∙ c.in_ok-room.was))
    (room_held n (length c.args.r.now) (sym c.room-2.ensures ∙ c.in_ok-room-2.was))
    (room_held n (length c.args.u.now) (sym c.room-3.ensures ∙ c.in_ok-room-3.was))
    c.copy_out.ensures c.copy_out-2.ensures c.copy_out-3.ensures) refl
