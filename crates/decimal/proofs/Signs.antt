-- The magnitude of a number of 64 signed bits.
--     abs_most                  no magnitude is past 2^63
--     natural_fits              the cast to a natural number is defined from 0 on
-- Assumes nothing.
use mathlib.Core.Path.{◌≡◌}
use mathlib.Core.Bool.{false}
use Prim.Native.Nat.{ℕ, ◌≤◌}
use native.Mathlib.Omega.{arith}
use lib.IntN.{ℤ, pos, negsuc, nat_abs}
use lib.Dec.{T}
use lib.Signed.{lt_z, non_neg}
use mir.Syntax.{w64}
use mir.Val.{Fits, SFits, to_z, of_z}
use mir.Facts.{to_z-of_z, Fits-nat_abs}

-- no magnitude is past 2^63
most : (n : ℤ) → SFits w64 n → nat_abs n ≤ 9223372036854775808
most (pos n) fit = omega (arith, fit.sfits)
most (negsuc n) fit = omega (arith, fit.sfits)

pub abs_most : {n : ℤ} → SFits w64 n → nat_abs n ≤ 9223372036854775808
abs_most {n} fit = most n fit

zero_up : (n : ℤ) → lt_z n (pos 0) ≡ false → T (non_neg n)
zero_up (pos n) h = tt
zero_up (negsuc n) h = let z : ◌≡◌ {A = ℕ} 0 1 = cc in absurd (omega arith)

module _ {n : ℤ} (fit : SFits w64 n) where
  nat_fits : Fits w64 (nat_abs (to_z w64 (of_z w64 n)))
  nat_fits = rw (to_z-of_z fit) (Fits-nat_abs {w = w64} {w' = w64} tt fit)

  pub natural_fits : lt_z (to_z w64 (of_z w64 n)) (pos 0) ≡ false → T (non_neg (to_z w64 (of_z w64 n))) × Fits w64 (nat_abs (to_z w64 (of_z w64 n)))
  natural_fits h = (zero_up (to_z w64 (of_z w64 n)) h, nat_fits)
