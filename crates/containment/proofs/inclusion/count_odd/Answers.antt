-- `count_odd`, by whether the side is odd. Assumes nothing.
use borrow.Author.Rules.{rules}
use mathlib.Core.Path.{◌≡◌, refl, sym, ◌∙◌}
use native.Mathlib.Omega.{arith}
use Rattle.containment.proofs.inclusion.count_odd.Goals as goal

pub returns-then-is_odd : goal.returns-then-is_odd
returns-then-is_odd c = let e = sym c.is_odd.ensures ∙ c.if-is_odd.true in rw e refl

pub returns : goal.returns
returns c = let e = sym c.is_odd.ensures ∙ c.if-is_odd.false in rw e (omega arith)
