-- `list_parts` meets its contract: its three parts, one after another. Assumes nothing.
use native.Mathlib.Omega.{arith}
use Rattle.decimal.proofs.Placing.{puts_then}
use Rattle.listing_text.proofs.list_parts.Goals as goal

pub returns : goal.returns
returns c =
    let third = c.table_lines.ensures in
    let second = c.generator_part-second.ensures in
    let first = c.figure_lines-first.ensures in
    puts_then (puts_then first.0 second.0 (omega arith)) third (omega arith)
