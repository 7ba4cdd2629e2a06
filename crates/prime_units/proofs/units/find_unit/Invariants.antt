-- `find_unit`: no g before has been found. Assumes nothing.
use Prim.Native.Nat.{◌-◌}
use native.Mathlib.Omega.{arith}
use Rattle.numbering.proofs.Space.{within_trans}
use Rattle.prime_units.proofs.Marks.{Trying, trying_start, trying_more}
use borrow.Author.Rules.{rules}
use Rattle.prime_units.proofs.units.find_unit.Given as goal

abbrev pub invariant-loop-g : goal.invariant-loop-g
invariant-loop-g l = Trying l.q l.initial.w l.w l.g
