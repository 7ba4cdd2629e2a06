-- Tests on signed numbers, as the code makes them, and what they say of the integer.
--
-- In order: equality with a negative constant; size at most a bound; above 0; not below 1.
-- Assumes nothing.
use mathlib.Core.Path.{◌≡◌, refl, sym, ◌∙◌, ap}
use mathlib.Core.Bool.{true, false}
use Prim.Native.Nat.{ℕ, zero, suc, ◌-◌, ◌^◌, ◌<◌, ◌≤◌}
use native.Mathlib.Omega.{arith}
use lib.Dec.{T, leb}
use borrow.Author.Tests.{le-leb, lt-leb, ltb-true, ltb-false, lt-ltb}
use lib.IntN.{ℤ, pos, negsuc, nat_abs}
use lib.Signed.{lt_z, le_z, non_neg}
use mir.Syntax.{w64}
use mir.Val.{SFits, to_z, of_z}
use mir.Facts.{to_z-of_z, to_z-neg, to_z_pos}
use Rattle.matrix.specs.Euclid.{positive}
use Rattle.basics.proofs.Choice.{clash}

-- the bits of a negative number are those of that number alone
pub bits_negative : (x : ℤ) (k : ℕ) → SFits w64 x → k < 2 ^ 63 → of_z w64 x ≡ 2 ^ 64 - suc k → x ≡ negsuc k
bits_negative x k f h e = sym (to_z-of_z f) ∙ ap (to_z w64) e ∙ to_z-neg w64 k h

pub bits_positive : (x : ℤ) (k : ℕ) → SFits w64 x → k < 2 ^ 63 → of_z w64 x ≡ k → x ≡ pos k
bits_positive x k f h e = sym (to_z-of_z f) ∙ ap (to_z w64) e ∙ to_z_pos w64 h

-- from -h to h
pub below_small : (x : ℤ) (h : ℕ) → lt_z x (negsuc h) ≡ true → leb (nat_abs x) (suc h) ≡ false
below_small (pos n) h e = clash e refl
below_small (negsuc n) h e = lt-leb (suc n) (suc h) (let k = ltb-true h n e in omega arith)

pub above_small : (x : ℤ) (h : ℕ) → lt_z x (negsuc h) ≡ false → le_z x (pos (suc h)) ≡ leb (nat_abs x) (suc h)
above_small (pos n) h e = refl
above_small (negsuc n) h e = sym (le-leb (suc n) (suc h) (let k = ltb-false h n e in omega arith))

pub zero_below : (x : ℤ) → lt_z (pos 0) x ≡ positive x
zero_below (pos zero) = refl
zero_below (pos (suc n)) = lt-ltb 0 (suc n) (omega arith)
zero_below (negsuc n) = refl

-- at least 1
pub record AtLeastOne (x : ℤ) : Type 0 where
  pub is : x ≡ pos (nat_abs x)
  pub low : 1 ≤ nat_abs x
  pub natural : T (non_neg x)

pub at_least_one : (x : ℤ) → lt_z x (pos 1) ≡ false → AtLeastOne x
at_least_one (pos n) e = record { is = refl; low = ltb-false n 1 e; natural = tt }
at_least_one (negsuc n) e = clash refl e
