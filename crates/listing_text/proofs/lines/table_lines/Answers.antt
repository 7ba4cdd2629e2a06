-- `lines::table_lines` meets its contract: three lines, one after another. Assumes nothing.
use native.Mathlib.Omega.{arith}
use Rattle.decimal.proofs.Placing.{puts_then}
use Rattle.listing_text.specs.Listing.{table_lines}
use Rattle.listing_text.proofs.lines.table_lines.Goals as goal

pub returns : goal.returns
unfolding table_lines
returns c =
    let earlier = c in
    let third = c.table_line.ensures in
    let second = c.table_line-second.ensures in
    let first = earlier.table_line-first.ensures in
    let s = earlier in
    puts_then (puts_then first.0 second.0 (omega (arith, s.requires.2))) third.0 (omega (arith, s.requires.2))
