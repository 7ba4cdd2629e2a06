-- `group_lines` meets its contract: each answer has its lines, and a symbol's table stands at the front of what is left. Assumes nothing.
use mathlib.Core.Path.{◌≡◌, sym, ap, ◌∙◌}
use native.Mathlib.Omega.{arith}
use mathlib.Core.List.{List}
use Prim.Native.Nat.{ℕ, ◌+◌, ◌*◌}
use lib.IntN.{ℤ}
use lib.ListN.{length, take}
use Rattle.decimal.proofs.Placing.{puts_as}
use Rattle.symbol.specs.Symbol.{IsSymbol}
use Rattle.import_symbol.specs.Answer.{ruled_table}
use Rattle.symbol_texts.specs.ImportAnswer.{symbol_lines}
use Rattle.named_groups.specs.Answer.{named_rule}
use Rattle.symbol_texts.specs.NamedAnswer.{order_for}
use Rattle.symbol_texts.proofs.NamedMaking.{lines_are}
use Rattle.symbol_texts.proofs.named_text.group_lines.Goals.{After-group_symbol-made, In-Ok, Start}
use Rattle.symbol_texts.proofs.named_text.group_lines.Goals as goal

-- after the symbol was asked for
module _ (m : After-group_symbol-made) where
  abbrev start : Start
  start = (goal.at.After-group_symbol-made m).Start

  abbrev K : ℕ
  K = start.args.k

  abbrev N : ℕ
  N = start.args.n

  abbrev table : List ℤ
  table = ruled_table (named_rule (order_for K N) K N)

  abbrev left : List ℤ
  left = m.group_symbol-made.new.table

-- where a symbol was made
module _ (k : In-Ok) where
  abbrev called : After-group_symbol-made
  called = (goal.at.In-Ok k).After-group_symbol-made

  abbrev v : ℕ
  v = k.in-Ok.v

  symbol : IsSymbol v (table called)
  symbol = (called.group_symbol-made.ensures.symbol_front.symbol v k.in-Ok.is).symbol

  front : take (3 * v + 1) (left called) ≡ table called
  front = called.group_symbol-made.ensures.symbol_front.front v k.in-Ok.is

  front_long : length (take (3 * v + 1) (left called)) ≡ 3 * v + 1
  front_long = ap length front ∙ symbol.long

pub overflow_mul-end : goal.overflow_mul-end
overflow_mul-end c = omega (arith, (symbol (goal.at.overflow_mul-end c).In-Ok).most)

pub overflow_add-end : goal.overflow_add-end
overflow_add-end c = omega (arith, (symbol (goal.at.overflow_add-end c).In-Ok).most)

pub slice_bounds-table-end : goal.slice_bounds-table-end
slice_bounds-table-end c = omega (arith, (symbol (goal.at.slice_bounds-table-end c).In-Ok).most, c.table-2-1.given)

pub slice_bounds-symbol_lines-end : goal.slice_bounds-symbol_lines-end
slice_bounds-symbol_lines-end c = sym (front_long (goal.at.slice_bounds-symbol_lines-end c).In-Ok)

pub symbol_lines-requires : goal.symbol_lines-requires
symbol_lines-requires c =
    let k = c in
    ((symbol (goal.at.symbol_lines-requires c).In-Ok).most, front_long (goal.at.symbol_lines-requires c).In-Ok, (start (called (goal.at.symbol_lines-requires c).In-Ok)).requires)

pub returns-in-Ok : goal.returns-in-Ok
returns-in-Ok c =
    let k = c in
    let m = called (goal.at.returns-in-Ok c).In-Ok in
    let same = ap (symbol_lines (v (goal.at.returns-in-Ok c).In-Ok)) (front (goal.at.returns-in-Ok c).In-Ok) ∙ lines_are (K m) (N m) m.group_symbol-made.result _ m.group_symbol-made.ensures.value k.in-Ok.is in
    puts_as same c.symbol_lines.ensures

pub returns-in-Err : goal.returns-in-Err
returns-in-Err c =
    let k = c in
    let m = k in
    puts_as (lines_are (K (goal.at.returns-in-Err c).After-group_symbol-made) (N (goal.at.returns-in-Err c).After-group_symbol-made) m.group_symbol-made.result _ m.group_symbol-made.ensures.value k.in-Err.is) c.refusal_line.ensures
