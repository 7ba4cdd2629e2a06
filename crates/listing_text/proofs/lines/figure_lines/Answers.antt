-- `lines::figure_lines` meets its contract: its two parts, one after the other. Assumes nothing.
use native.Mathlib.Omega.{arith}
use Rattle.decimal.proofs.Placing.{puts_then}
use Rattle.listing_text.specs.Listing.{figure_lines}
use Rattle.listing_text.proofs.lines.figure_lines.Goals as goal

pub returns : goal.returns
unfolding figure_lines
returns c =
    let second = c.cusp_lines.ensures in
    let first = c.count_lines-first.ensures in
    let s = c in
    (puts_then first.0 second.0 (omega arith), omega (arith, first.1, second.1, s.requires.0))
