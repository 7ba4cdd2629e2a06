-- `tower` meets its contract. Its ways out are the refusals of its steps in order (proofs/Order.antt). Assumes nothing.
use Rattle.std.specs.Prelude.{Err}
use Rattle.std.proofs.lemmas.Result.{err_from_is_err_and}
use lib.ListN.{length}
use mathlib.Core.Path.{◌≡◌, refl, sym, ap, ◌∙◌}
use Rattle.call.specs.Space.{work_length}
use Rattle.call.proofs.Laws.{room_held, room_lacks}
use Rattle.towers.proofs.Checks.{symbols_accepted}
use Rattle.towers.proofs.Means.{names_passed}
use Rattle.towers.proofs.Order.{too_many_lem, bad_symbol, bad_name, is_empty, is_short, by_claims, told}
use Rattle.towers.proofs.tower.Goals as goal

pub returns-then-count-gt-ENTRIES : goal.returns-then-count-gt-ENTRIES
returns-then-count-gt-ENTRIES c = let s = c in too_many_lem s.args.count s.args.t.now s.args.w.now _ c.if-count-gt-ENTRIES.true refl

pub returns-in_err-check_symbols : goal.returns-in_err-check_symbols
returns-in_err-check_symbols c =
    let e = err_from_is_err_and _ c.from_residual.ensures.1 in
    let f = c.in_err-check_symbols.field-0.0 in
    told c.args.count c.args.t.now c.args.w.now _ (e.1 ∙ ap Err e.2)
    (bad_symbol c.args.count c.args.t.now c.args.w.now _ c.if-count-gt-ENTRIES.false f (sym c.check_symbols.ensures ∙ c.in_err-check_symbols.was) refl)

pub first_unlisted-e-requires : goal.first_unlisted-e-requires
first_unlisted-e-requires c = (symbols_accepted c.args.count c.args.t.now).0 (sym c.check_symbols.ensures ∙ c.in_ok-check_symbols.was)

pub returns-then-e-count : goal.returns-then-e-count
returns-then-e-count c =
    bad_name c.args.count c.args.t.now c.args.w.now _ c.if-count-gt-ENTRIES.false (sym c.check_symbols.ensures ∙ c.in_ok-check_symbols.was)
    c.first_unlisted-e.result c.first_unlisted-e.ensures c.if-e-count.true refl

pub returns-then-count-eq0 : goal.returns-then-count-eq0
returns-then-count-eq0 c =
    is_empty c.args.count c.args.t.now c.args.w.now _ c.if-count-gt-ENTRIES.false (sym c.check_symbols.ensures ∙ c.in_ok-check_symbols.was)
    c.first_unlisted-e.result c.first_unlisted-e.ensures c.if-e-count.false c.if-count-eq0.true refl

pub returns-in_err-room : goal.returns-in_err-room
returns-in_err-room c =
    let e = err_from_is_err_and _ c.from_residual-in_err-room.ensures.1 in
    let lacks = room_lacks work_length (length c.args.w.now) (sym c.room.ensures ∙ c.in_err-room.was) in
    told c.args.count c.args.t.now c.args.w.now _ (e.1 ∙ ap Err (e.2 ∙ lacks.1))
    (is_short c.args.count c.args.t.now c.args.w.now _ c.if-count-gt-ENTRIES.false (sym c.check_symbols.ensures ∙ c.in_ok-check_symbols.was)
    c.first_unlisted-e.result c.first_unlisted-e.ensures c.if-e-count.false c.if-count-eq0.false lacks.0 refl)

pub check_claims-requires : goal.check_claims-requires
check_claims-requires c =
    record {
      symbols = (symbols_accepted c.args.count c.args.t.now).0 (sym c.check_symbols.ensures ∙ c.in_ok-check_symbols.was);
      listed = names_passed c.args.count c.args.t.now c.first_unlisted-e.result c.first_unlisted-e.ensures c.if-e-count.false;
      work = room_held work_length (length c.args.w.now) (sym c.room.ensures ∙ c.in_ok-room.was);
    }

pub returns : goal.returns
returns c =
    by_claims c.args.count c.args.t.now c.args.w.now _ c.if-count-gt-ENTRIES.false (sym c.check_symbols.ensures ∙ c.in_ok-check_symbols.was)
    c.first_unlisted-e.result c.first_unlisted-e.ensures c.if-e-count.false c.if-count-eq0.false
    (room_held work_length (length c.args.w.now) (sym c.room.ensures ∙ c.in_ok-room.was)) c.check_claims.ensures.value c.check_claims.ensures.w_after
