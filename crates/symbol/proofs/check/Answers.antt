-- `check` meets its contract: its ways out are the seven checks in their order, each reached only where those before it passed, and what
-- they accept is exactly the symbols (`verdict`). Assumes nothing.
use mathlib.Core.Path.{◌≡◌, sym, ◌∙◌}
use Rattle.std.proofs.lemmas.Result.{err_from_is_err_and}
use Rattle.symbol.specs.Check.{check3, check5, symbol_check}
use Rattle.call.specs.Refusal.{◌or_else◌}
use Rattle.symbol.proofs.Accepted.{verdict}
use Rattle.symbol.proofs.Order.{first_refused, next_check, too_few, too_many_lem, wrong_length, first_two, from_four, from_six, behind}
use Rattle.symbol.proofs.check.Goals.{Else-n-v, In_ok-check_entries, In_ok-check_neighbours, In_ok-check_zero}
use Rattle.symbol.proofs.check.Goals as goal

pub returns-then-v-lt1 : goal.returns-then-v-lt1
returns-then-v-lt1 c = verdict c.args.v c.args.t.now _ (sym (too_few c.args.v c.args.t.now c.if-v-lt1.true))

pub returns-then-v-gt1023 : goal.returns-then-v-gt1023
returns-then-v-gt1023 c = verdict c.args.v c.args.t.now _ (sym (too_many_lem c.args.v c.args.t.now c.if-v-lt1.false c.if-v-gt1023.true))

pub returns-then-n-v : goal.returns-then-n-v
returns-then-n-v c =
    verdict c.args.v c.args.t.now _ (sym (wrong_length c.args.v c.args.t.now c.if-v-lt1.false c.if-v-gt1023.false c.if-n-v.true))

-- ---- what is left once the checks before passed

third : (c : Else-n-v) → symbol_check c.args.v c.args.t.now ≡ (check3 c.args.v c.args.t.now or_else from_four c.args.v c.args.t.now)
third c = first_two c.args.v c.args.t.now c.if-v-lt1.false c.if-v-gt1023.false c.if-n-v.false

fourth : (c : In_ok-check_entries) → symbol_check c.args.v c.args.t.now ≡ from_four c.args.v c.args.t.now
fourth c = third (goal.at.In_ok-check_entries c).Else-n-v ∙ next_check _ (sym c.in_ok-check_entries.ensures)

fifth : (c : In_ok-check_neighbours) → symbol_check c.args.v c.args.t.now ≡ (check5 c.args.v c.args.t.now or_else from_six c.args.v c.args.t.now)
fifth c = fourth (goal.at.In_ok-check_neighbours c).In_ok-check_entries ∙ next_check _ (sym c.in_ok-check_neighbours.ensures)

sixth : (c : In_ok-check_zero) → symbol_check c.args.v c.args.t.now ≡ from_six c.args.v c.args.t.now
sixth c = fifth (goal.at.In_ok-check_zero c).In_ok-check_neighbours ∙ next_check _ (sym c.in_ok-check_zero.ensures)

pub returns-in_err-check_entries : goal.returns-in_err-check_entries
returns-in_err-check_entries c =
    let p = err_from_is_err_and c.from_residual.result c.from_residual.ensures.1 in
    rw (p.1, p.2) (verdict c.args.v c.args.t.now _
    (sym (third (goal.at.returns-in_err-check_entries c).Else-n-v ∙ first_refused _ (sym c.in_err-check_entries.ensures))))

pub returns-in_err-check_neighbours : goal.returns-in_err-check_neighbours
returns-in_err-check_neighbours c =
    let r = c.from_residual-in_err-check_neighbours in
    let p = err_from_is_err_and r.result r.ensures.1 in
    rw (p.1, p.2) (verdict c.args.v c.args.t.now _
    (sym (fourth (goal.at.returns-in_err-check_neighbours c).In_ok-check_entries ∙ first_refused _ (sym c.in_err-check_neighbours.ensures))))

pub returns-in_err-check_zero : goal.returns-in_err-check_zero
returns-in_err-check_zero c =
    let r = c.from_residual-in_err-check_zero in
    let p = err_from_is_err_and r.result r.ensures.1 in
    rw (p.1, p.2) (verdict c.args.v c.args.t.now _
    (sym (fifth (goal.at.returns-in_err-check_zero c).In_ok-check_neighbours ∙ first_refused _ (sym c.in_err-check_zero.ensures))))

pub returns-in_err-check_paired : goal.returns-in_err-check_paired
returns-in_err-check_paired c =
    let r = c.from_residual-in_err-check_paired in
    let p = err_from_is_err_and r.result r.ensures.1 in
    let e = rw (behind c.args.v c.args.t.now) at c.in_err-check_paired.ensures in
    rw (p.1, p.2) (verdict c.args.v c.args.t.now _
    (sym (sixth (goal.at.returns-in_err-check_paired c).In_ok-check_zero ∙ first_refused _ (sym e))))

pub returns : goal.returns
returns c =
    let b = behind c.args.v c.args.t.now in
    let e = rw b at c.in_ok-check_paired.ensures in
    verdict c.args.v c.args.t.now _
    (rw b at c.check_odd.ensures ∙ sym (sixth (goal.at.returns c).In_ok-check_zero ∙ next_check _ (sym e)))
