-- `exchange_lines`: each answer of the exchange has its lines (`refused_lines`). What was made is a symbol at the table's front (`made_symbol`).
-- Assumes nothing.
use mathlib.Core.Path.{sym, ap, ◌∙◌}
use Prim.Native.Nat.{ℕ, ◌+◌, ◌*◌}
use native.Mathlib.Omega.{arith}
use lib.ListN.{length, take}
use mir.Facts.{to_z-of_z}
use Rattle.decimal.proofs.Placing.{puts_as}
use Rattle.symbol_texts.proofs.ExchangePrinting.{MadeSymbol, made_symbol, refused_lines}
use Rattle.symbol_texts.proofs.exchange_text.exchange_lines.Goals.{After-exchange-made, In-Ok, Start}
use Rattle.symbol_texts.proofs.exchange_text.exchange_lines.Goals as goal

-- a symbol was made
module _ (k : In-Ok) where
  abbrev called : After-exchange-made
  called = (goal.at.In-Ok k).After-exchange-made

  abbrev start : Start
  start = (goal.at.After-exchange-made called).Start

  abbrev n : ℕ
  n = k.in-Ok.n

  made : MadeSymbol start.args.v start.args.t.now start.args.x start.args.y n (take (3 * n + 1) called.exchange-made.new.out)
  made =
      let s = start in
      made_symbol s.args.v s.args.t.now s.args.x s.args.y s.args.table.now
      (rw (to_z-of_z s.ranges.x, to_z-of_z s.ranges.y) at called.exchange-made.ensures) n k.in-Ok.is

pub overflow_mul-end : goal.overflow_mul-end
overflow_mul-end c = omega (arith, (made (goal.at.overflow_mul-end c).In-Ok).symbol.most)

pub overflow_add-end : goal.overflow_add-end
overflow_add-end c = omega (arith, (made (goal.at.overflow_add-end c).In-Ok).symbol.most)

pub slice_bounds-symbol_lines-end : goal.slice_bounds-symbol_lines-end
slice_bounds-symbol_lines-end c = omega (arith, (made (goal.at.slice_bounds-symbol_lines-end c).In-Ok).symbol.most, (start (goal.at.slice_bounds-symbol_lines-end c).In-Ok).requires.0, c.table-1.given)

pub slice_bounds-symbol_lines-end-in-Ok : goal.slice_bounds-symbol_lines-end-in-Ok
slice_bounds-symbol_lines-end-in-Ok c = let m = made (goal.at.slice_bounds-symbol_lines-end-in-Ok c).In-Ok in sym (ap length m.front_is ∙ m.symbol.long)

pub symbol_lines-requires : goal.symbol_lines-requires
symbol_lines-requires c =
    let k = c in
    ((made (goal.at.symbol_lines-requires c).In-Ok).symbol.most, ap length (made (goal.at.symbol_lines-requires c).In-Ok).front_is ∙ (made (goal.at.symbol_lines-requires c).In-Ok).symbol.long, (start (goal.at.symbol_lines-requires c).In-Ok).requires.1)

pub returns-in-Ok : goal.returns-in-Ok
returns-in-Ok c =
    let k = c in
    puts_as (made (goal.at.returns-in-Ok c).In-Ok).lines c.symbol_lines.ensures

pub returns-in-Err : goal.returns-in-Err
returns-in-Err c =
    let k = c in
    let m = k in
    let s = m in
    let g = rw (to_z-of_z s.ranges.x, to_z-of_z s.ranges.y) at m.exchange-made.ensures in
    puts_as (refused_lines s.args.v s.args.t.now s.args.x s.args.y s.args.table.now (omega (arith, s.requires.0)) g _ k.in-Err.is)
    c.refusal_line.ensures
