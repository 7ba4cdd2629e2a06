-- `query` meets its contract: its ways out are those of its steps in order (`by_first_lem`, `by_second_lem`, `by_short`, `by_long`). Assumes nothing.
use Rattle.std.specs.Prelude.{Err}
use mathlib.Core.Path.{◌≡◌, refl, sym, ap, ◌∙◌}
use lib.ListN.{length}
use Rattle.call.specs.Space.{work_length}
use Rattle.call.proofs.Laws.{fills_as, ran, room_held, room_lacks}
use Rattle.symbol.specs.Check.{symbol_check}
use Rattle.symbol.proofs.Accepted.{accepted}
use Rattle.word.specs.Answer.{matrices_check}
use Rattle.word.proofs.Refused.{passed_by, by_first_lem, by_second_lem, by_short, by_long}
use Rattle.word.proofs.Order.{asked}
use borrow.Author.Rules.{rules}
use Rattle.word.proofs.query.Goals as goal

pub returns-in_err-check : goal.returns-in_err-check
returns-in_err-check c =
    let e : c.from_residual.result ≡ Err c.in_err-check.field-0.0 = search rules in
    fills_as (by_first_lem (symbol_check c.args.v c.args.t.now) (matrices_check c.args.a c.args.b) c.args.w.now _
    c.in_err-check.field-0.0 (sym c.check.ensures.returned ∙ c.in_err-check.was) (refl, tt)) e

pub returns-in_err-pair_check : goal.returns-in_err-pair_check
returns-in_err-pair_check c =
    let e : c.from_residual-in_err-pair_check.result ≡ Err c.in_err-pair_check.field-0.0 = search rules in
    fills_as (by_second_lem (symbol_check c.args.v c.args.t.now) (matrices_check c.args.a c.args.b) c.args.w.now _
    (sym c.check.ensures.returned ∙ c.in_ok-check.was)
    c.in_err-pair_check.field-0.0 (sym c.pair_check.ensures ∙ c.in_err-pair_check.was) (refl, tt)) e

pub returns-in_err-room : goal.returns-in_err-room
returns-in_err-room c =
    let e : c.from_residual-in_err-room.result ≡ Err c.in_err-room.field-0.0 = search rules in
    let lacks = room_lacks work_length (length c.args.w.now) (sym c.room.ensures ∙ c.in_err-room.was) in
    fills_as (by_short (symbol_check c.args.v c.args.t.now) (matrices_check c.args.a c.args.b) c.args.w.now _
    (sym c.check.ensures.returned ∙ c.in_ok-check.was) (sym c.pair_check.ensures ∙ c.in_ok-pair_check.was)
    lacks.0 (refl, tt)) (e ∙ ap Err lacks.1)

pub answer-requires : goal.answer-requires
answer-requires c =
    asked c.args.a c.args.b ((accepted c.args.v c.args.t.now).0 (sym c.check.ensures.returned ∙ c.in_ok-check.was))
    (room_held work_length (length c.args.w.now) (sym c.room.ensures ∙ c.in_ok-room.was))
    (passed_by c.args.a c.args.b (sym c.pair_check.ensures ∙ c.in_ok-pair_check.was))

pub returns : goal.returns
returns c =
    let f = c.answer.ensures in
    fills_as (by_long (symbol_check c.args.v c.args.t.now) (matrices_check c.args.a c.args.b) c.args.w.now _
    (sym c.check.ensures.returned ∙ c.in_ok-check.was) (sym c.pair_check.ensures ∙ c.in_ok-pair_check.was) _
    (room_held work_length (length c.args.w.now) (sym c.room.ensures ∙ c.in_ok-room.was)) f.w_after (ran f.fills)) f.fills.answer
