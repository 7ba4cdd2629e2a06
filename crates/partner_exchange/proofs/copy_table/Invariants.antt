-- `copy_table`: up to j the entries are those of t, and then what stood there (the loop's invariant). Assumes nothing.
use mathlib.Core.Path.{◌≡◌, refl}
use mathlib.Core.List.{◌++◌}
use Prim.Native.Nat.{◌-◌, ◌≤◌}
use native.Mathlib.Omega.{arith}
use lib.ListN.{length, take, drop, length-set}
use borrow.Author.Rules.{rules}
use Rattle.matrix.specs.Matrix.{nth}
use Rattle.matrix.proofs.Bounds.{kept}
use Rattle.partner_exchange.proofs.Copied.{copied_more, copied_all}
use Rattle.partner_exchange.proofs.copy_table.Given as goal

abbrev pub invariant-loop-j : goal.invariant-loop-j
invariant-loop-j l = (l.out ≡ take l.j l.t ++ drop l.j l.initial.out) × (l.j ≤ length l.t) × (length l.out ≡ length l.initial.out)
