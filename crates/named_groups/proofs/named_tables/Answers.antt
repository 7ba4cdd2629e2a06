-- `named_groups::named_tables` meets its contract: its ways out are the steps of `named_tables_steps` in order.
-- Assumes nothing.
use Rattle.congruence.specs.Index.{family_index}
use Rattle.import_call.proofs.Answering.{check_refused, work_short, work_long}
use Rattle.named_groups.specs.Group.{family_of, group_check}
use Rattle.named_groups.proofs.Answers.{group_by, table_steps, tables_by}
use Rattle.std.specs.Prelude.{Err}
use Rattle.std.proofs.lemmas.Result.{err_from_is_err_and}
use mathlib.Core.Path.{refl, sym, ap, ◌∙◌}
use lib.ListN.{length}
use Rattle.call.specs.Space.{work_length}
use Rattle.call.proofs.Laws.{answer_is, room_held, room_lacks}
use Rattle.named_groups.proofs.named_tables.Goals as goal

pub returns-in_err-check : goal.returns-in_err-check
returns-in_err-check c =
    let e = err_from_is_err_and _ c.from_residual.ensures.1 in
    answer_is (e.1 ∙ ap Err e.2)
    (check_refused (group_check c.args.k c.args.n) c.args.w.now (family_index (family_of c.args.k) c.args.n) _
    (table_steps (family_of c.args.k) c.args.n c.args.s.now c.args.r.now c.args.s.now c.args.r.now)
    (sym c.check.ensures.returned ∙ c.in_err-check.was) (refl, (refl, tt)))

pub returns-in_err-room : goal.returns-in_err-room
returns-in_err-room c =
    let e = err_from_is_err_and _ c.from_residual-in_err-room.ensures.1 in
    let lacks = room_lacks work_length (length c.args.w.now) (sym c.room.ensures ∙ c.in_err-room.was) in
    answer_is (e.1 ∙ ap Err (e.2 ∙ lacks.1))
    (work_short (group_check c.args.k c.args.n) c.args.w.now (family_index (family_of c.args.k) c.args.n)
    (sym c.check.ensures.returned ∙ c.in_ok-check.was)
    (table_steps (family_of c.args.k) c.args.n c.args.s.now c.args.r.now c.args.s.now c.args.r.now) lacks.0 (refl, (refl, tt)))

pub make_tables-requires : goal.make_tables-requires
make_tables-requires c = (
  group_by c.args.k c.args.n c.family_of.ensures (sym c.check.ensures.returned ∙ c.in_ok-check.was),
  room_held work_length (length c.args.w.now) (sym c.room.ensures ∙ c.in_ok-room.was),
)

pub returns : goal.returns
returns c =
    work_long (group_check c.args.k c.args.n) c.args.w.now (family_index (family_of c.args.k) c.args.n)
    (sym c.check.ensures.returned ∙ c.in_ok-check.was)
    (table_steps (family_of c.args.k) c.args.n c.args.s.now c.args.r.now c.make_tables.new.s c.make_tables.new.r) (room_held work_length (length c.args.w.now) (sym c.room.ensures ∙ c.in_ok-room.was)) c.make_tables.ensures.w_after
    (tables_by c.args.k c.args.n c.family_of.ensures c.args.s.now c.args.r.now c.make_tables.new.s c.make_tables.new.r c.make_tables.ensures.fills)
