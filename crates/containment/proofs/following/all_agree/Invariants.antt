-- `all_agree`: the corners below p agree. Assumes nothing.
use borrow.Author.Rules.{rules}
use mathlib.Core.Path.{◌≡◌, refl, sym, ◌∙◌}
use mathlib.Core.Bool.{true}
use Prim.Native.Nat.{ℕ, ◌-◌, ◌≤◌, ◌<◌}
use native.Mathlib.Omega.{arith}
use borrow.Author.Tests.{not-true, not-false}
use borrow.Author.Count.{below_more}
use Rattle.basics.proofs.Choice.{clash}
use Rattle.containment.specs.Inner.Following.{agrees_at}
use Rattle.containment.proofs.following.all_agree.Given as goal

abbrev pub invariant-loop-p : goal.invariant-loop-p
invariant-loop-p l = ((j : ℕ) → j < l.p → agrees_at l.v l.t l.n l.u l.w j ≡ true) × (l.p ≤ l.b)
