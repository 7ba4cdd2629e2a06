-- `grow_within` refuses where the result space is shorter than the symbol's table (`no_room`); where it isn't, the table fits, whichever rule is followed
-- (`has_room`), and `grow` has the answer (`grown_in_room`). Assumes nothing.
use Rattle.std.specs.Prelude.{Err}
use Rattle.std.proofs.lemmas.Result.{err_from_is_err_and}
use mathlib.Core.Path.{sym, ap, ◌∙◌}
use native.Mathlib.Omega.{arith}
use lib.ListN.{length}
use Rattle.call.proofs.Laws.{answer_is, room_held, room_lacks}
use Rattle.import_symbol.specs.Answer.{order_by}
use Rattle.import_call.proofs.Means.{has_room, no_room, grown_in_room}
use Rattle.permutations.proofs.Answering.{pair_of}
use borrow.Author.Rules.{rules}
use Rattle.import_call.proofs.grow_within.Goals as goal

pub needed_length-n-requires : goal.needed_length-n-requires
needed_length-n-requires c = let p = c.requires.0 in omega (arith, p.most, p.even)

pub returns-in_err-room : goal.returns-in_err-room
returns-in_err-room c =
    let e = err_from_is_err_and _ c.from_residual.ensures.1 in
    let lacks = room_lacks c.needed_length-n.result (length c.args.out.now) (sym c.room.ensures ∙ c.in_err-room.was) in
    answer_is (e.1 ∙ ap Err (e.2 ∙ lacks.1))
    (no_room (order_by c.args.wide) c.args.s.now c.args.r.now c.args.out.now _ c.needed_length-n.ensures lacks.0)

pub grow-requires : goal.grow-requires
grow-requires c =
    let S = c.args.s.now in
    let R = c.args.r.now in
    let held = room_held c.needed_length-n.result (length c.args.out.now) (sym c.room.ensures ∙ c.in_ok-room.was) in
    (pair_of S R c.requires.0, c.requires.1, has_room (order_by c.args.wide) S R _ c.requires.0 (rw c.needed_length-n.ensures at held))

pub returns : goal.returns
returns c =
    let a = c.grow.ensures in
    let held = room_held c.needed_length-n.result (length c.args.out.now) (sym c.room.ensures ∙ c.in_ok-room.was) in
    grown_in_room (order_by c.args.wide) c.args.s.now c.args.r.now c.args.out.now c.requires.0
    (rw c.needed_length-n.ensures at held) a.value a.out_after
