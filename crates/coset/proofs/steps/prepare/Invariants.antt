-- `prepare` goes over all places. The loop's invariant: the steps from the positions below p are noted (`StepsReady`); at first there are
-- none (`prepared_none`), at the end they are all (`prepared_all`). Assumes nothing.
use native.Mathlib.Omega.{arith}
use mathlib.Core.Path.{◌≡◌, refl, ◌∙◌}
use Prim.Native.Nat.{◌-◌, ◌≤◌}
use lib.ListN.{length}
use Rattle.coset.specs.Inner.Steps.{StepsReady}
use Rattle.coset.proofs.Noted.{prepared_none, prepared_all}
use borrow.Author.Rules.{rules}
use Rattle.coset.proofs.steps.prepare.Given as goal

abbrev pub invariant-loop-p : goal.invariant-loop-p
invariant-loop-p l = StepsReady l.t l.v l.w l.p × (l.p ≤ l.end) × (length l.w ≡ length l.initial.w)
