-- Tests on integers: what they say.
-- Assumes nothing.
use mathlib.Core.Path.{◌≡◌, refl, sym, ◌∙◌, ap}
use mathlib.Core.Bool.{true}
use Prim.Native.Nat.{zero, suc, ◌≤◌}
use native.Mathlib.Omega.{arith}
use borrow.Author.Tests.{eq-eqb, eqb-true}
use lib.IntN.{ℤ, pos, negsuc, nat_abs}
use Rattle.matrix.specs.Euclid.{positive}
use Rattle.basics.proofs.Choice.{clash}
use Rattle.symbol.specs.Check.{eq_z}

-- ---- equality of integers

pub eq_z_refl : (x : ℤ) → eq_z x x ≡ true
eq_z_refl (pos n) = eq-eqb n n refl
eq_z_refl (negsuc n) = eq-eqb n n refl

pub eq_z_true : (x y : ℤ) → eq_z x y ≡ true → x ≡ y
eq_z_true (pos m) (pos n) e = ap pos (eqb-true m n e)
eq_z_true (pos m) (negsuc n) e = clash e refl
eq_z_true (negsuc m) (pos n) e = clash e refl
eq_z_true (negsuc m) (negsuc n) e = ap negsuc (eqb-true m n e)

pub eq_eq_z : (x y : ℤ) → x ≡ y → eq_z x y ≡ true
eq_eq_z x y e = ap (eq_z x) (sym e) ∙ eq_z_refl x

-- ---- an integer above 0 is a natural

pub positive_true : (x : ℤ) → positive x ≡ true → (1 ≤ nat_abs x) × (x ≡ pos (nat_abs x))
positive_true (pos zero) e = clash e refl
positive_true (pos (suc n)) e = (omega arith, refl)
positive_true (negsuc n) e = clash e refl

pub true_positive : (x : ℤ) → 1 ≤ nat_abs x → x ≡ pos (nat_abs x) → positive x ≡ true
true_positive (pos zero) h e = absurd (omega arith)
true_positive (pos (suc n)) h e = refl
true_positive (negsuc n) h e = ap positive e
