-- `lines::count_lines` meets its contract: three lines, one after another. Assumes nothing.
use native.Mathlib.Omega.{arith}
use Rattle.decimal.proofs.Placing.{puts_then}
use Rattle.listing_text.specs.Listing.{count_lines}
use Rattle.listing_text.proofs.lines.count_lines.Goals as goal

pub returns : goal.returns
unfolding count_lines
returns c =
    let third = c.line_of.ensures in
    let second = c.line_of-second.ensures in
    let first = c.line_of-first.ensures in
    (puts_then (puts_then first.0 second.0 (omega arith)) third.0 (omega arith), omega (arith, first.1, second.1, third.1))
