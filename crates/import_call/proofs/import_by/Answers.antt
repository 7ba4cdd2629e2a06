-- `import_by` meets its contract: 12 to 15 leave both spaces as they were (`check_refused`), and so does a short work space (`work_short`); an accepted
-- pair is a passport (`passport_of`), and `import_accepted` has its answer (`work_long`). Assumes nothing.
use Rattle.std.specs.Prelude.{Err}
use Rattle.std.proofs.lemmas.Result.{err_from_is_err_and}
use mathlib.Core.Path.{refl, sym, ap, ◌∙◌}
use lib.ListN.{length}
use Rattle.call.specs.Space.{work_length}
use Rattle.call.proofs.Laws.{answer_is, room_held, room_lacks}
use Rattle.permutations.specs.Check.{pair_check}
use Rattle.import_call.specs.Import.{needed_vertices}
use Rattle.import_call.proofs.Means.{symbol_steps}
use Rattle.permutations.proofs.Answering.{passport_of}
use Rattle.import_call.proofs.Answering.{check_refused, work_short, work_long}
use Rattle.import_symbol.specs.Answer.{order_by}
use borrow.Author.Rules.{rules}
use Rattle.import_call.proofs.import_by.Goals as goal

pub returns-in_err-check : goal.returns-in_err-check
returns-in_err-check c =
    let e = err_from_is_err_and _ c.from_residual.ensures.1 in
    answer_is (e.1 ∙ ap Err e.2)
    (check_refused (pair_check c.args.s.now c.args.r.now) c.args.w.now (needed_vertices c.args.r.now) _
    (symbol_steps (order_by c.args.wide) c.args.s.now c.args.r.now c.args.out.now c.args.out.now)
    (sym c.check.ensures.returned ∙ c.in_err-check.was) (refl, tt))

pub returns-in_err-room : goal.returns-in_err-room
returns-in_err-room c =
    let e = err_from_is_err_and _ c.from_residual-in_err-room.ensures.1 in
    let lacks = room_lacks work_length (length c.args.w.now) (sym c.room.ensures ∙ c.in_err-room.was) in
    answer_is (e.1 ∙ ap Err (e.2 ∙ lacks.1))
    (work_short (pair_check c.args.s.now c.args.r.now) c.args.w.now (needed_vertices c.args.r.now)
    (sym c.check.ensures.returned ∙ c.in_ok-check.was)
    (symbol_steps (order_by c.args.wide) c.args.s.now c.args.r.now c.args.out.now c.args.out.now) lacks.0 (refl, tt))

pub import_accepted-requires : goal.import_accepted-requires
import_accepted-requires c = (
  passport_of c.args.s.now c.args.r.now (sym c.check.ensures.returned ∙ c.in_ok-check.was),
  room_held work_length (length c.args.w.now) (sym c.room.ensures ∙ c.in_ok-room.was),
)

pub returns : goal.returns
returns c =
    let a = c.import_accepted.ensures in
    work_long (pair_check c.args.s.now c.args.r.now) c.args.w.now (needed_vertices c.args.r.now)
    (sym c.check.ensures.returned ∙ c.in_ok-check.was)
    (symbol_steps (order_by c.args.wide) c.args.s.now c.args.r.now c.args.out.now _)
    (room_held work_length (length c.args.w.now) (sym c.room.ensures ∙ c.in_ok-room.was)) a.w_after a.fills
