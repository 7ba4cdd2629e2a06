-- `fill_r` writes the R image of each place. The loop's invariant: the places below p have theirs, made as S, Q twice and S. Why no read
-- leaves the table: S images are places, and Q leads from place to place (`c_low`). Assumes nothing.
use mathlib.Core.Path.{◌≡◌, refl, sym, ◌∙◌}
use Prim.Native.Nat.{◌+◌, ◌-◌, ◌≤◌, ◌<◌}
use native.Mathlib.Omega.{arith}
use lib.ListN.{length}
use Rattle.polygon.specs.Cut.{places}
use Rattle.coset.specs.Inner.Work.{FilledR}
use Rattle.coset.proofs.Work.{turned_none, c_low, turned_more, turned_all}
use borrow.Author.Rules.{rules}
use Rattle.coset.proofs.arrange.fill_r.Given as goal

abbrev pub invariant-loop-p : goal.invariant-loop-p
invariant-loop-p l = FilledR l.v l.initial.w l.w l.p × (l.p ≤ l.end)
