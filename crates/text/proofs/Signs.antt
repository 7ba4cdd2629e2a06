-- The number -m as the code computes it, -1 - (m - 1), which no step takes out of 64 bits.
--     less_is      -1 - (m - 1) is -m
--     less_fits    and fits
--     less_stored  and is stored as it is
-- Assumes nothing.
use mathlib.Core.Path.{◌≡◌, refl, ap, ◌∙◌}
use mathlib.Core.Logic.{◌≢◌}
use Prim.Native.Nat.{ℕ, zero, suc, ◌-◌, ◌≤◌}
use native.Mathlib.Omega.{arith}
use lib.IntN.{pos, negsuc, neg_ℤ, ◌-ℤ◌}
use mir.Syntax.{w64}
use mir.Val.{SFits, to_z, of_z}
use mir.Facts.{to_z-of_z, to_z_pos}

one_less : (k : ℕ) → negsuc 0 -ℤ pos k ≡ negsuc k
one_less zero = refl
one_less (suc k) = ap (λ n. negsuc n) (omega arith)

module _ (m : ℕ) (some : m ≢ 0) (most : m ≤ 9223372036854775808) where
  pub less_is : negsuc 0 -ℤ to_z w64 (m - 1) ≡ neg_ℤ (pos m)
  less_is = go m some most
    where
      go : (m : ℕ) → m ≢ 0 → m ≤ 9223372036854775808 → negsuc 0 -ℤ to_z w64 (m - 1) ≡ neg_ℤ (pos m)
      go zero n h = absurd (omega arith)
      go (suc k) n h =
          let e : suc k - 1 ≡ k = omega arith in
          rw (e, to_z_pos w64 {n = k} (omega arith)) (one_less k)

  pub less_fits : SFits w64 (negsuc 0 -ℤ to_z w64 (m - 1))
  less_fits = rw less_is (go m some most)
    where
      go : (m : ℕ) → m ≢ 0 → m ≤ 9223372036854775808 → SFits w64 (neg_ℤ (pos m))
      go zero n h = absurd (omega arith)
      go (suc k) n h = record { sfits = omega arith }

  pub less_stored : to_z w64 (of_z w64 (negsuc 0 -ℤ to_z w64 (m - 1))) ≡ neg_ℤ (pos m)
  less_stored = to_z-of_z less_fits ∙ less_is
