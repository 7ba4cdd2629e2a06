-- A cleared work space: its length, and that each of its numbers is 0.
-- Assumes nothing.
use mathlib.Core.Path.{◌≡◌, refl}
use Prim.Native.Nat.{ℕ, zero, suc}
use lib.ListN.{length, get_or, length-replicate}
use Rattle.call.specs.Space.{zeros}

pub length_zeros : (n : ℕ) → length (zeros n) ≡ n
unfolding zeros
length_zeros n = length-replicate {A = ℕ} n 0

pub get_d_zeros : (n k : ℕ) → get_or (zeros n) k 0 ≡ 0
unfolding zeros
get_d_zeros zero k = refl
get_d_zeros (suc n) zero = refl
get_d_zeros (suc n) (suc k) = get_d_zeros n k
