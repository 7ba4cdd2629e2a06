-- `lines::generator_part` meets its contract: a line, and the lines of the generators. Assumes nothing.
use native.Mathlib.Omega.{arith}
use Rattle.decimal.proofs.Placing.{puts_then}
use Rattle.listing_text.specs.Listing.{generator_part}
use Rattle.listing_text.proofs.lines.generator_part.Goals as goal

pub returns : goal.returns
unfolding generator_part
returns c =
    let second = c.generator_lines.ensures in
    let first = c.line_of-first.ensures in
    let s = c in
    (puts_then first.0 second.0 (omega (arith, s.requires.2)), omega (arith, first.1, second.1))
