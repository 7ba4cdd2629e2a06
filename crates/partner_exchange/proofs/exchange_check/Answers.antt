-- `exchange_check`: a refusal of 1 to 7 comes first (`first_refuses`), and after them 23 alone is left (`then_next`). Assumes nothing.
use mathlib.Core.Path.{◌≡◌, sym, ◌∙◌, ap}
use mathlib.Core.List.{List}
use lib.IntN.{ℤ}
use lib.ListN.{length-drop}
use Prim.Native.Nat.{ℕ, ◌*◌}
use native.Mathlib.Omega.{arith}
use mir.Facts.{to_z-of_z}
use Rattle.std.specs.Prelude.{Ok, Err}
use Rattle.call.specs.Refusal.{Checked}
use Rattle.call.proofs.Answers.{first_refuses, then_next}
use Rattle.symbol.specs.Table.{pairing_entries}
use Rattle.symbol.specs.Check.{symbol_check}
use Rattle.symbol.specs.Symbol.{IsSymbol}
use Rattle.symbol.proofs.Order.{behind}
use Rattle.symbol.proofs.Accepted.{accepted}
use Rattle.partner_exchange.specs.Exchange.{check23}
use borrow.Author.Rules.{rules}
use Rattle.partner_exchange.proofs.exchange_check.Goals as goal

-- the table has passed
symbol : (v : ℕ) (t : List ℤ) {a : Checked} → a ≡ symbol_check v t → a ≡ Ok tt → IsSymbol v t
symbol v t h e = (accepted v t).0 (sym h ∙ e)

pub overflow_mul-v : goal.overflow_mul-v
overflow_mul-v c = omega (arith, (symbol c.args.v c.args.t.now c.check.ensures.returned c.in_ok-check.was).most)

pub offset_bounds-t-v : goal.offset_bounds-t-v
offset_bounds-t-v c = omega (arith, (symbol c.args.v c.args.t.now c.check.ensures.returned c.in_ok-check.was).most)

pub slice_bounds-check_labels-count : goal.slice_bounds-check_labels-count
slice_bounds-check_labels-count c = omega (arith, (symbol c.args.v c.args.t.now c.check.ensures.returned c.in_ok-check.was).long)

pub slice_bounds-check_labels-start : goal.slice_bounds-check_labels-start
slice_bounds-check_labels-start c = omega (arith, (symbol c.args.v c.args.t.now c.check.ensures.returned c.in_ok-check.was).long)

pub check_labels-requires : goal.check_labels-requires
check_labels-requires c =
    let v = c.args.v in
    let t = c.args.t.now in
    let ok = symbol v t c.check.ensures.returned c.in_ok-check.was in
    (ok.most, rw (behind v t) (omega (arith, length-drop (2 * v) t, ok.long)))

pub returns-in_err-check : goal.returns-in_err-check
returns-in_err-check c =
    let e : c.from_residual.result ≡ Err c.in_err-check.field-0.0 = search rules in
    let v = c.args.v in
    let t = c.args.t.now in
    e ∙ first_refuses (symbol_check v t) (check23 v (pairing_entries v t) c.args.x c.args.y) _
    (sym c.check.ensures.returned ∙ c.in_err-check.was)

pub returns : goal.returns
returns c =
    let v = c.args.v in
    let t = c.args.t.now in
    rw (to_z-of_z c.ranges.x, to_z-of_z c.ranges.y) at c.check_labels.ensures
    ∙ ap (λ (q : List ℤ). check23 v q c.args.x c.args.y) (behind v t)
    ∙ then_next (symbol_check v t) (check23 v (pairing_entries v t) c.args.x c.args.y) (sym c.check.ensures.returned ∙ c.in_ok-check.was)
