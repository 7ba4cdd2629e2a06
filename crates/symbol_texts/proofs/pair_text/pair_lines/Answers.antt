-- `pair_lines` meets its contract: three lines, one after another. Assumes nothing.
use native.Mathlib.Omega.{arith}
use Rattle.decimal.proofs.Placing.{puts_then}
use Rattle.symbol_texts.specs.Pair.{pair_text}
use Rattle.symbol_texts.proofs.pair_text.pair_lines.Goals as goal

pub returns : goal.returns
unfolding pair_text
returns c =
    let third = c in
    let second = third in
    let first = second in
    puts_then (puts_then first.count_line-first.ensures.0 second.table_line-second.ensures.0 (omega arith)) third.table_line.ensures.0 (omega arith)
