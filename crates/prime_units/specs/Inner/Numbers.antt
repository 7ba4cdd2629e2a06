-- Powers of a prime, and inverses.
--
--   OwnPart p d r          r is the largest power of p that divides d
--   InverseOrNone q g h    h is from 1 to q and inverse to g modulo q; or 0, and there is none
use Rattle.std.specs.Prelude.{◌≡◌, ℕ, ◌*◌, ◌^◌, ◌/◌, ◌%◌, ◌≤◌, ◌<◌}
use Rattle.std.specs.Int.{◌∣◌}

pub record OwnPart (p d r : ℕ) : Type 0 where
  pub i : ℕ
  pub is : r ≡ p ^ i
  pub some : 0 < r
  pub whole : d / r * r ≡ d
  pub clear : p ∣ d / r → ⊥

pub record InverseOrNone (q g h : ℕ) : Type 0 where
  pub low : h ≤ q
  pub is : 0 < h → g * h % q ≡ 1
  pub none : h ≡ 0 → (k : ℕ) → 0 < k → k ≤ q → g * k % q ≡ 1 → ⊥
