-- `fill_s` writes the S image of each place. The loop's invariant: the places below p have theirs, and the polygon's tables still stand,
-- since the images lie apart from them (`moved_more`). Assumes nothing.
use mathlib.Core.Path.{◌≡◌, refl, sym, ◌∙◌}
use Prim.Native.Nat.{◌+◌, ◌-◌, ◌≤◌, ◌<◌}
use native.Mathlib.Omega.{arith}
use lib.ListN.{length, length-set}
use Rattle.polygon.specs.Cut.{places}
use Rattle.coset.specs.Inner.Work.{FilledS}
use Rattle.numbering.specs.Inner.Space.{SIGMA}
use Rattle.coset.proofs.Work.{image_low, moved_none, moved_more, moved_all}
use borrow.Author.Rules.{rules}
use Rattle.coset.proofs.arrange.fill_s.Given as goal

abbrev pub invariant-loop-p : goal.invariant-loop-p
invariant-loop-p l = FilledS l.t l.v l.w l.p × (l.p ≤ l.end) × (length l.w ≡ length l.initial.w)
