-- `find_side`: no side up to k passes (the loop's invariant), so the one at which it stops is the first. Assumes nothing.
use mathlib.Core.Path.{◌≡◌, sym, ◌∙◌, ap}
use Prim.Native.Nat.{◌+◌, ◌-◌, ◌≤◌}
use native.Mathlib.Omega.{arith}
use native.Mathlib.Numerals.{add-one}
use borrow.Author.Rules.{rules}
use lib.IntN.{ℤ}
use Rattle.basics.specs.Count.{first}
use Rattle.basics.proofs.Count.{Clear, clear_zero, clear_more, clear_less, first_clear, first_hit}
use Rattle.partner_exchange.specs.Inner.Ready.{label_test}
use Rattle.partner_exchange.proofs.find_side.Given as goal

abbrev pub invariant-loop-k : goal.invariant-loop-k
invariant-loop-k l = Clear (label_test l.p l.x l.skip) l.k × (l.k ≤ l.v + 1)
