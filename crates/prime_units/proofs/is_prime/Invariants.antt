-- `is_prime`: d is the least divisor in the end. Assumes nothing.
use Rattle.prime_units.proofs.Numbers.{Seeking, seeking_start, seeking_next, seeking_end, small_prime}
use native.Mathlib.Omega.{arith}
use mathlib.Core.Path.{sym}
use Prim.Native.Nat.{◌-◌, ◌+◌}
use borrow.Author.Rules.{rules}
use Rattle.prime_units.proofs.is_prime.Given as goal

abbrev pub invariant-loop-d : goal.invariant-loop-d
invariant-loop-d l = Seeking l.p l.d

abbrev pub decreases-loop-d : goal.decreases-loop-d
decreases-loop-d l = l.p - l.d
