-- `lines::figure_line` meets its contract: the figure's value, or its name and its refusal. Assumes nothing.
use native.Mathlib.Omega.{arith}
use Rattle.decimal.proofs.Placing.{puts_then}
use Rattle.listing_text.specs.Listing.{figure_line}
use Rattle.listing_text.proofs.lines.figure_line.Goals as goal

pub returns-in-Ok : goal.returns-in-Ok
unfolding figure_line
returns-in-Ok c =
    let e = c.line_of.ensures in
    (rw c.in-Ok.is e.0, omega (arith, e.1))

pub returns-in-Err : goal.returns-in-Err
unfolding figure_line
returns-in-Err c =
    let first = c.put-first.ensures in
    let second = rw (c.number.ensures, c.place.ensures) at c.line_of-in-Err.ensures in
    let s = c in
    (rw c.in-Err.is (puts_then first second.0 (omega (arith, s.requires))), omega (arith, first.end_is, second.1))
