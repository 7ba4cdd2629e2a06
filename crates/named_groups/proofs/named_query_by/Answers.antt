-- `named_groups::named_query_by` meets its contract: its ways out are those of its steps in order (`by_first_lem`, `by_second_lem`, `by_short`, `by_long`).
-- Assumes nothing.
use Rattle.std.specs.Prelude.{Err}
use Rattle.std.proofs.lemmas.Result.{err_from_is_err_and}
use mathlib.Core.Path.{refl, sym, ap, ◌∙◌}
use lib.ListN.{length}
use Rattle.call.specs.Space.{work_length}
use Rattle.call.proofs.Laws.{fills_as, ran, room_held, room_lacks}
use Rattle.import_symbol.specs.Answer.{order_by}
use Rattle.word.specs.Answer.{matrices_check}
use Rattle.word.proofs.Refused.{passed_by, by_first_lem, by_second_lem, by_short, by_long}
use Rattle.named_groups.specs.Group.{group_check}
use Rattle.named_groups.proofs.Asking.{query_ready, as_named}
use Rattle.named_groups.proofs.named_query_by.Goals as goal

pub answer_query-requires : goal.answer_query-requires
answer_query-requires c =
    query_ready c.args.k c.args.n c.args.a c.args.b c.args.w.now (sym c.check.ensures.returned ∙ c.in_ok-check.was)
    (passed_by c.args.a c.args.b (sym c.pair_check.ensures ∙ c.in_ok-pair_check.was))
    (room_held work_length (length c.args.w.now) (sym c.room.ensures ∙ c.in_ok-room.was)) c.family_of.ensures

pub returns-in_err-check : goal.returns-in_err-check
returns-in_err-check c =
    let e = err_from_is_err_and _ c.from_residual.ensures.1 in
    fills_as
    (by_first_lem (group_check c.args.k c.args.n) (matrices_check c.args.a c.args.b) c.args.w.now _ c.in_err-check.field-0.0
    (sym c.check.ensures.returned ∙ c.in_err-check.was) (refl, tt)) (e.1 ∙ ap Err e.2)

pub returns-in_err-pair_check : goal.returns-in_err-pair_check
returns-in_err-pair_check c =
    let e = err_from_is_err_and _ c.from_residual-in_err-pair_check.ensures.1 in
    fills_as
    (by_second_lem (group_check c.args.k c.args.n) (matrices_check c.args.a c.args.b) c.args.w.now _
    (sym c.check.ensures.returned ∙ c.in_ok-check.was) c.in_err-pair_check.field-0.0
    (sym c.pair_check.ensures ∙ c.in_err-pair_check.was) (refl, tt)) (e.1 ∙ ap Err e.2)

pub returns-in_err-room : goal.returns-in_err-room
returns-in_err-room c =
    let e = err_from_is_err_and _ c.from_residual-in_err-room.ensures.1 in
    let lacks = room_lacks work_length (length c.args.w.now) (sym c.room.ensures ∙ c.in_err-room.was) in
    fills_as
    (by_short (group_check c.args.k c.args.n) (matrices_check c.args.a c.args.b) c.args.w.now _
    (sym c.check.ensures.returned ∙ c.in_ok-check.was) (sym c.pair_check.ensures ∙ c.in_ok-pair_check.was) lacks.0 (refl, tt))
    (e.1 ∙ ap Err (e.2 ∙ lacks.1))

pub returns : goal.returns
returns c =
    let q = c.answer_query in
    let f = as_named (order_by c.args.wide) c.args.k c.args.n c.args.a c.args.b c.args.out.now q.new.out c.args.start
    c.family_of.ensures q.ensures.fills in
    fills_as
    (by_long (group_check c.args.k c.args.n) (matrices_check c.args.a c.args.b) c.args.w.now _
    (sym c.check.ensures.returned ∙ c.in_ok-check.was) (sym c.pair_check.ensures ∙ c.in_ok-pair_check.was) _
    (room_held work_length (length c.args.w.now) (sym c.room.ensures ∙ c.in_ok-room.was)) q.ensures.w_after (ran f))
    f.answer
