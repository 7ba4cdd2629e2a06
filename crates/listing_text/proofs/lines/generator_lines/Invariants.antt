-- `lines::generator_lines` meets its contract: after i turns the first i generators stand. Assumes nothing.
use mathlib.Core.Path.{◌≡◌}
use Prim.Native.Nat.{◌+◌, ◌*◌, ◌≤◌}
use lib.ListN.{length}
use Rattle.decimal.specs.Writing.{Puts}
use Rattle.listing_text.specs.Listing.{generator_lines}
use Rattle.listing_text.proofs.lines.generator_lines.Given as goal

abbrev pub invariant-loop-i : goal.invariant-loop-i
invariant-loop-i l = record {
  puts : Puts (generator_lines l.i l.table) l.at l.end l.initial.out l.out;
  most : l.end ≤ l.at + 110 * l.i;
  same : length l.out ≡ length l.initial.out;
}
