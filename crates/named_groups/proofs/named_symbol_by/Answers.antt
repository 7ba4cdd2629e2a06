-- `named_groups::named_symbol_by` meets its contract: its ways out are the steps of `named_symbol_steps` in order.
-- Assumes nothing.
use Rattle.congruence.specs.Cosets.{family_s, family_r}
use Rattle.import_symbol.specs.Answer.{order_by}
use Rattle.import_call.specs.Import.{needed_vertices}
use Rattle.import_call.proofs.Means.{symbol_steps}
use Rattle.import_call.proofs.Answering.{check_refused, work_short, work_long}
use Rattle.named_groups.specs.Group.{family_of, group_check}
use Rattle.named_groups.proofs.Answers.{group_by, symbol_by_lem}
use Rattle.std.specs.Prelude.{Err}
use Rattle.std.proofs.lemmas.Result.{err_from_is_err_and}
use mathlib.Core.Path.{refl, sym, ap, ◌∙◌}
use lib.ListN.{length}
use Rattle.call.specs.Space.{work_length}
use Rattle.call.proofs.Laws.{answer_is, room_held, room_lacks}
use Rattle.named_groups.proofs.named_symbol_by.Goals as goal

pub returns-in_err-check : goal.returns-in_err-check
returns-in_err-check c =
    let e = err_from_is_err_and _ c.from_residual.ensures.1 in
    answer_is (e.1 ∙ ap Err e.2)
    (check_refused (group_check c.args.k c.args.n) c.args.w.now (needed_vertices (family_r (family_of c.args.k) c.args.n)) _
    (symbol_steps (order_by c.args.wide) (family_s (family_of c.args.k) c.args.n) (family_r (family_of c.args.k) c.args.n)
    c.args.out.now c.args.out.now)
    (sym c.check.ensures.returned ∙ c.in_err-check.was) (refl, tt))

pub returns-in_err-room : goal.returns-in_err-room
returns-in_err-room c =
    let e = err_from_is_err_and _ c.from_residual-in_err-room.ensures.1 in
    let lacks = room_lacks work_length (length c.args.w.now) (sym c.room.ensures ∙ c.in_err-room.was) in
    answer_is (e.1 ∙ ap Err (e.2 ∙ lacks.1))
    (work_short (group_check c.args.k c.args.n) c.args.w.now (needed_vertices (family_r (family_of c.args.k) c.args.n))
    (sym c.check.ensures.returned ∙ c.in_ok-check.was)
    (symbol_steps (order_by c.args.wide) (family_s (family_of c.args.k) c.args.n) (family_r (family_of c.args.k) c.args.n)
    c.args.out.now c.args.out.now) lacks.0 (refl, tt))

pub make_symbol-requires : goal.make_symbol-requires
make_symbol-requires c = (
  group_by c.args.k c.args.n c.family_of.ensures (sym c.check.ensures.returned ∙ c.in_ok-check.was),
  room_held work_length (length c.args.w.now) (sym c.room.ensures ∙ c.in_ok-room.was),
)

pub returns : goal.returns
returns c =
    work_long (group_check c.args.k c.args.n) c.args.w.now (needed_vertices (family_r (family_of c.args.k) c.args.n))
    (sym c.check.ensures.returned ∙ c.in_ok-check.was)
    (symbol_steps (order_by c.args.wide) (family_s (family_of c.args.k) c.args.n) (family_r (family_of c.args.k) c.args.n)
    c.args.out.now _) (room_held work_length (length c.args.w.now) (sym c.room.ensures ∙ c.in_ok-room.was)) c.make_symbol.ensures.w_after
    (symbol_by_lem (order_by c.args.wide) c.args.k c.args.n c.family_of.ensures c.args.out.now c.make_symbol.new.out c.make_symbol.ensures.fills)
