-- Signed numbers of 64 bits within the limit, as the code has them: they are kept and compared with 0; and two signs that are alike.
-- Assumes nothing.
use mathlib.Core.Path.{◌≡◌, refl}
use mathlib.Core.Bool.{Bool, true, false, beq}
use Prim.Native.Nat.{◌≤◌}
use native.Mathlib.Omega.{arith}
use lib.IntN.{ℤ, pos, negsuc, nat_abs}
use lib.Signed.{le_z, non_neg}
use mir.Syntax.{w64}
use mir.Val.{to_z, of_z}
use mir.Facts.{to_z-of_z}
use borrow.Author.Tests.{le-leb}
use Rattle.matrix.proofs.Bounds.{fits}
use Rattle.same_coset.specs.Inner.Rows.{both_or_none, LIMIT}

pub kept : (z : ℤ) → nat_abs z ≤ LIMIT → to_z w64 (of_z w64 z) ≡ z
kept z h = to_z-of_z (fits z (omega arith))

pub from_zero : (z : ℤ) → le_z (pos 0) z ≡ non_neg z
from_zero (pos i) = le-leb 0 i (omega arith)
from_zero (negsuc i) = refl

pub alike : (h k : Bool) → beq h k ≡ both_or_none h k
alike true true = refl
alike true false = refl
alike false true = refl
alike false false = refl
