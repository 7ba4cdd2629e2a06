-- `mark_powers`: what is marked is a power of g or the opposite of one. Assumes nothing.
use Prim.Native.Nat.{◌-◌}
use native.Mathlib.Omega.{arith}
use Rattle.prime_units.proofs.Numbers.{product_low}
use Rattle.prime_units.proofs.Marks.{Running, running_start, running_next, powered_minus}
use borrow.Author.Rules.{rules}
use Rattle.prime_units.proofs.units.mark_powers.Given as goal

abbrev pub invariant-loop-i : goal.invariant-loop-i
invariant-loop-i l = Running l.q l.g l.initial.w l.w l.x
