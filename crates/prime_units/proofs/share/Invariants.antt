-- `share`: e is a multiple of the other part, at most as many times as are needed. Assumes nothing.
use Rattle.prime_units.proofs.Numbers.{Stepping, Stepped, stepping_start, stepping_next, stepping_end, stepping_low}
use Rattle.congruence_decision.proofs.Primes.{prime_least}
use native.Mathlib.Omega.{arith}
use Prim.Native.Nat.{◌-◌, ◌+◌, ◌≤◌, ◌<◌}
use borrow.Author.Rules.{rules}
use Rattle.prime_units.proofs.share.Given as goal

abbrev pub invariant-loop-e : goal.invariant-loop-e
invariant-loop-e l = Stepping l.d l.r l.co l.e

abbrev pub decreases-loop-e : goal.decreases-loop-e
decreases-loop-e l = l.d - l.e
