-- `import_lines` meets its contract: each answer of the import in the program's own spaces has its lines. Assumes nothing.
use mathlib.Core.Path.{◌≡◌, sym, ap, ◌∙◌}
use mathlib.Core.List.{List}
use native.Mathlib.Omega.{arith}
use Prim.Native.Nat.{ℕ, ◌+◌, ◌*◌}
use lib.IntN.{ℤ, pos}
use lib.ListN.{length, take, replicate, length-replicate}
use Rattle.call.specs.Refusal.{Filled}
use Rattle.decimal.proofs.Placing.{puts_as}
use Rattle.symbol.specs.Symbol.{IsSymbol}
use Rattle.import_symbol.specs.Answer.{order_by, ruled_table}
use Rattle.import_rule.specs.Order.{Order}
use Rattle.import_rule.specs.Symbol.{ruled_by}
use Rattle.symbol_texts.specs.ImportAnswer.{symbol_lines, lines_by, import_lines}
use Rattle.symbol_texts.proofs.ImportAnswering.{lines_are, symbol_is, front_made}
use Rattle.symbol_texts.proofs.import_text.import_lines.Goals.{After-import_by-made, In-Ok, Start}
use Rattle.symbol_texts.proofs.import_text.import_lines.Goals as goal

-- after the import
module _ (m : After-import_by-made) where
  abbrev start : Start
  start = (goal.at.After-import_by-made m).Start

  abbrev order : Order
  order = order_by start.args.wide

  abbrev S : List ℕ
  S = start.args.s.now

  abbrev R : List ℕ
  R = start.args.r.now

  abbrev table : List ℤ
  table = ruled_table (ruled_by order S R)

  abbrev left : List ℤ
  left = m.import_by-made.new.out

  lines : lines_by m.import_by-made.result table ≡ import_lines order S R
  lines =
      lines_are order S R (replicate 32768 0) m.import_by-made.new.w (replicate 3070 (pos 0)) left (length-replicate {A = ℕ} 32768 0)
      (length-replicate {A = ℤ} 3070 (pos 0)) m.import_by-made.ensures

-- where a symbol was made
module _ (k : In-Ok) where
  abbrev called : After-import_by-made
  called = (goal.at.In-Ok k).After-import_by-made

  abbrev v : ℕ
  v = k.in-Ok.v

  symbol : IsSymbol v (table called)
  symbol =
      (symbol_is (order called) (S called) (R called) (replicate 32768 0) called.import_by-made.new.w (replicate 3070 (pos 0)) (left called)
      (length-replicate {A = ℕ} 32768 0) (length-replicate {A = ℤ} 3070 (pos 0)) called.import_by-made.ensures k.in-Ok.is).precisely.symbol

  front : take (3 * v + 1) (left called) ≡ table called
  front =
      front_made (order called) (S called) (R called) (replicate 32768 0) called.import_by-made.new.w (replicate 3070 (pos 0)) (left called)
      (length-replicate {A = ℕ} 32768 0) (length-replicate {A = ℤ} 3070 (pos 0)) called.import_by-made.ensures k.in-Ok.is

  front_long : length (take (3 * v + 1) (left called)) ≡ 3 * v + 1
  front_long = ap length front ∙ symbol.long

pub overflow_mul-end : goal.overflow_mul-end
overflow_mul-end c = omega (arith, (symbol (goal.at.overflow_mul-end c).In-Ok).most)

pub overflow_add-end : goal.overflow_add-end
overflow_add-end c = omega (arith, (symbol (goal.at.overflow_add-end c).In-Ok).most)

pub slice_bounds-table-end : goal.slice_bounds-table-end
slice_bounds-table-end c = omega (arith, (symbol (goal.at.slice_bounds-table-end c).In-Ok).most, c.table-2-1.given)

pub slice_bounds-symbol_lines-end : goal.slice_bounds-symbol_lines-end
slice_bounds-symbol_lines-end c = sym (front_long (goal.at.slice_bounds-symbol_lines-end c).In-Ok)

pub symbol_lines-requires : goal.symbol_lines-requires
symbol_lines-requires c =
    let k = c in
    ((symbol (goal.at.symbol_lines-requires c).In-Ok).most, front_long (goal.at.symbol_lines-requires c).In-Ok, (start (called (goal.at.symbol_lines-requires c).In-Ok)).requires)

pub returns-in-Ok : goal.returns-in-Ok
returns-in-Ok c =
    let k = c in
    let m = called (goal.at.returns-in-Ok c).In-Ok in
    let made = sym (ap (λ (a : Filled). lines_by a (table m)) k.in-Ok.is) in
    puts_as (ap (symbol_lines (v (goal.at.returns-in-Ok c).In-Ok)) (front (goal.at.returns-in-Ok c).In-Ok) ∙ made ∙ lines m) c.symbol_lines.ensures

pub returns-in-Err : goal.returns-in-Err
returns-in-Err c =
    let k = c in
    let m = k in
    puts_as (sym (ap (λ (a : Filled). lines_by a (table (goal.at.returns-in-Err c).After-import_by-made)) k.in-Err.is) ∙ lines (goal.at.returns-in-Err c).After-import_by-made) c.refusal_line.ensures
