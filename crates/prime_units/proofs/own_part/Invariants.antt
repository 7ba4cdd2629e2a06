-- `own_part`: r is a power of p that divides d. Assumes nothing.
use Rattle.prime_units.proofs.Numbers.{Dividing, dividing_start, dividing_next, dividing_end, grows, product_low}
use native.Mathlib.Omega.{arith}
use Prim.Native.Nat.{◌-◌, ◌+◌}
use borrow.Author.Rules.{rules}
use Rattle.prime_units.proofs.own_part.Given as goal

abbrev pub invariant-loop-r : goal.invariant-loop-r
invariant-loop-r l = Dividing l.p l.d l.r

abbrev pub decreases-loop-r : goal.decreases-loop-r
decreases-loop-r l = l.d - l.r
