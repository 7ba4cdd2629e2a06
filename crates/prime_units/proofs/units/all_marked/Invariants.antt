use mathlib.Core.Path.{refl}
use Rattle.numbering.proofs.Find.{true_false}
use Prim.Native.Nat.{◌-◌}
use native.Mathlib.Omega.{arith}
use Rattle.prime_units.proofs.Marks.{Through, through_start, through_more, through_end}
use borrow.Author.Rules.{rules}
use Rattle.prime_units.proofs.units.all_marked.Given as goal

abbrev pub invariant-loop-u : goal.invariant-loop-u
invariant-loop-u l = Through l.p l.q l.u l.w
