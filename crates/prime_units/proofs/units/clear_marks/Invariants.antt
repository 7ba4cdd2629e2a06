-- `clear_marks`: no marks below j. Assumes nothing.
use Prim.Native.Nat.{◌+◌, ◌-◌}
use native.Mathlib.Omega.{arith}
use Rattle.prime_units.proofs.Marks.{Clearing, clearing_start, clearing_more, clearing_end}
use borrow.Author.Rules.{rules}
use Rattle.prime_units.proofs.units.clear_marks.Given as goal

abbrev pub invariant-loop-j : goal.invariant-loop-j
invariant-loop-j l = Clearing l.q l.initial.w l.w l.j
