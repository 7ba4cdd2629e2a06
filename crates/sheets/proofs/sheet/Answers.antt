-- `sheet` meets its contract: its ways out are those of its steps in order (`by_first_lem`, `by_second_lem`, `by_short`, `by_long`). Assumes nothing.
use Rattle.std.specs.Prelude.{Ok, Err}
use mathlib.Core.Path.{◌≡◌, refl, sym, ◌∙◌, ap}
use mathlib.Core.Bool.{Bool, false}
use lib.ListN.{length}
use Rattle.call.specs.Space.{work_length}
use Rattle.call.specs.declared.refusal.Refusal.TheVariants.{TooShort}
use Rattle.call.proofs.Laws.{fills_as, ran, room_held, room_lacks}
use Rattle.symbol.specs.Check.{refuse, symbol_check}
use Rattle.symbol.proofs.Accepted.{accepted, pass}
use Rattle.word.proofs.Refused.{by_first_lem, by_second_lem, by_short, by_long}
use Rattle.sheets.specs.Sheet.{bad_count, entries_check}
use borrow.Author.Rules.{rules}
use Rattle.sheets.proofs.sheet.Goals.{Else-is_bad_count}
use Rattle.sheets.proofs.sheet.Goals as goal

pub returns-then-is_bad_count : goal.returns-then-is_bad_count
returns-then-is_bad_count c =
    let a = c.args in
    fills_as (by_first_lem (entries_check (length a.p.now)) (symbol_check a.v a.t.now) a.w.now _ (TooShort 2048)
    (ap (λ (b : Bool). refuse b (TooShort 2048)) (sym c.is_bad_count.ensures ∙ c.if-is_bad_count.true)) (refl, (refl, tt))) refl

-- the number of entries was no matter
module _ (c : Else-is_bad_count) where
  counted : bad_count (length c.args.p.now) ≡ false
  counted = sym c.is_bad_count.ensures ∙ c.if-is_bad_count.false

  sheeted : entries_check (length c.args.p.now) ≡ Ok tt
  sheeted = pass (bad_count (length c.args.p.now)) (TooShort 2048) counted

pub returns-in_err-check : goal.returns-in_err-check
returns-in_err-check c =
    let e : c.from_residual.result ≡ Err c.in_err-check.field-0.0 = search rules in
    let a = c.args in
    fills_as (by_second_lem (entries_check (length a.p.now)) (symbol_check a.v a.t.now) a.w.now _
    (sheeted (goal.at.returns-in_err-check c).Else-is_bad_count)
    c.in_err-check.field-0.0 (sym c.check.ensures.returned ∙ c.in_err-check.was) (refl, (refl, tt))) e

pub returns-in_err-room : goal.returns-in_err-room
returns-in_err-room c =
    let e : c.from_residual-in_err-room.result ≡ Err c.in_err-room.field-0.0 = search rules in
    let a = c.args in
    let lacks = room_lacks work_length (length a.w.now) (sym c.room.ensures ∙ c.in_err-room.was) in
    fills_as (by_short (entries_check (length a.p.now)) (symbol_check a.v a.t.now) a.w.now _
    (sheeted (goal.at.returns-in_err-room c).Else-is_bad_count) (sym c.check.ensures.returned ∙ c.in_ok-check.was)
    lacks.0 (refl, (refl, tt))) (e ∙ ap Err lacks.1)

pub fill-requires : goal.fill-requires
fill-requires c =
    let a = c.args in
    record {
      symbol = (accepted a.v a.t.now).0 (sym c.check.ensures.returned ∙ c.in_ok-check.was);
      count = counted (goal.at.fill-requires c).Else-is_bad_count;
      work = room_held work_length (length a.w.now) (sym c.room.ensures ∙ c.in_ok-room.was);
    }

pub returns : goal.returns
returns c =
    let f = c.fill.ensures in
    let a = c.args in
    fills_as (by_long (entries_check (length a.p.now)) (symbol_check a.v a.t.now) a.w.now _
    (sheeted (goal.at.returns c).Else-is_bad_count) (sym c.check.ensures.returned ∙ c.in_ok-check.was) _
    (room_held work_length (length a.w.now) (sym c.room.ensures ∙ c.in_ok-room.was)) f.w_after (ran f.fills)) f.fills.answer
