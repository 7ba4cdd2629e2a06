-- The number of vertices that a text names, by the test that the code makes.
--     negative-count, natural-count     what it is
--     count_natural                     where it is a natural number
-- Assumes nothing.
use mathlib.Core.Path.{◌≡◌, refl}
use mathlib.Core.Bool.{true, false}
use Prim.Native.Nat.{ℕ}
use native.Mathlib.Omega.{arith}
use lib.Dec.{T}
use lib.IntN.{ℤ, pos, negsuc, nat_abs}
use lib.Signed.{lt_z, non_neg}
use borrow.Author.Tests.{ltb-true}
use Rattle.text.specs.Reading.{vertex_count}
use Rattle.text.proofs.Clash.{clash}

pub negative_count : (x : ℤ) → lt_z x (pos 0) ≡ true → 0 ≡ vertex_count x
negative_count (pos n) h = absurd (omega (arith, ltb-true n 0 h))
negative_count (negsuc n) h = refl

pub natural_count : (x : ℤ) → lt_z x (pos 0) ≡ false → nat_abs x ≡ vertex_count x
natural_count (pos n) h = refl
natural_count (negsuc n) h = let z : ◌≡◌ {A = ℕ} 0 1 = cc in clash z

pub count_natural : (x : ℤ) → lt_z x (pos 0) ≡ false → T (non_neg x)
count_natural (pos n) h = tt
count_natural (negsuc n) h = let z : ◌≡◌ {A = ℕ} 0 1 = cc in clash z
