-- `named_groups::fill_tables` meets its contract: two spaces are tested, and then the tables are written.
-- Assumes nothing.
use Rattle.named_groups.proofs.Answers.{no_room_S, no_room_R, tables_in_room}
use Rattle.std.specs.Prelude.{Err}
use Rattle.std.proofs.lemmas.Result.{err_from_is_err_and}
use mathlib.Core.Path.{sym, ap, ◌∙◌}
use lib.ListN.{length}
use Rattle.call.proofs.Laws.{answer_is, room_held, room_lacks}
use Rattle.named_groups.proofs.fill_tables.Goals as goal

pub returns-in_err-room : goal.returns-in_err-room
returns-in_err-room c =
    let e = err_from_is_err_and _ c.from_residual.ensures.1 in
    let lacks = room_lacks _ (length c.args.s.now) (sym c.room.ensures ∙ c.in_err-room.was) in
    answer_is (e.1 ∙ ap Err (e.2 ∙ lacks.1))
    (no_room_S c.args.f c.args.n c.requires.0 c.family_index-k.ensures c.args.s.now c.args.r.now lacks.0)

pub returns-in_err-room-2 : goal.returns-in_err-room-2
returns-in_err-room-2 c =
    let e = err_from_is_err_and _ c.from_residual-in_err-room-2.ensures.1 in
    let held = room_held _ (length c.args.s.now) (sym c.room.ensures ∙ c.in_ok-room.was) in
    let lacks = room_lacks _ (length c.args.r.now) (sym c.room-2.ensures ∙ c.in_err-room-2.was) in
    answer_is (e.1 ∙ ap Err (e.2 ∙ lacks.1))
    (no_room_R c.args.f c.args.n c.requires.0 c.family_index-k.ensures c.args.s.now c.args.r.now held lacks.0)

pub returns : goal.returns
returns c =
    let held_S = room_held _ (length c.args.s.now) (sym c.room.ensures ∙ c.in_ok-room.was) in
    let held_R = room_held _ (length c.args.r.now) (sym c.room-2.ensures ∙ c.in_ok-room-2.was) in
    tables_in_room c.args.f c.args.n c.requires.0 c.family_index-k.ensures c.args.s.now c.args.r.now held_S held_R
    c.tables.ensures.s_after c.tables.ensures.r_after
