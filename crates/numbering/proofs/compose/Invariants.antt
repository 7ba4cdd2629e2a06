-- `numbering::compose` meets its contract. The loop's invariant: the first j entries of the composed table stand at `to`.
-- Assumes nothing.
use mathlib.Core.Path.{◌≡◌}
use lib.ListN.{length}
use Rattle.numbering.specs.Table.{◌then_table◌}
use Rattle.numbering.specs.Inner.Space.{put_to}
use Rattle.call.specs.Space.{entries}
use Rattle.numbering.proofs.compose.Given as goal

abbrev pub invariant-loop-j : goal.invariant-loop-j
invariant-loop-j l =
    (l.w ≡ put_to l.initial.w l.to (entries l.a l.n l.initial.w then_table entries l.b l.m l.initial.w) l.j)
    × (length l.w ≡ length l.initial.w)
