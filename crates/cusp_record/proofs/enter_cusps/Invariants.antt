-- `enter_cusps` fills the columns of cusps and of steps in one pass. The loop's invariant is `Filling`. Assumes nothing.
use mathlib.Core.Path.{refl}
use Prim.Native.Nat.{◌-◌}
use native.Mathlib.Omega.{arith}
use lib.ListN.{length-set}
use Rattle.figures.specs.Inner.Scan.{held_t}
use Rattle.cusp_record.proofs.Fill.{Filling, filling_start, filling_lists, filling_at, x_low, number_low, first_low, entered_more, filled}
use borrow.Author.Rules.{rules}
use Rattle.cusp_record.proofs.enter_cusps.Given as goal

abbrev pub invariant-loop-y : goal.invariant-loop-y
invariant-loop-y l = Filling (held_t l.n l.initial.w) l.n l.k l.initial.w l.w l.c l.y
