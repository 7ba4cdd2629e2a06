-- A modulus, and a common divisor with its multiplier.
--
--   Modulus n         n is from 1 to 1,000
--   CommonOf n c r    r .g divides n and c, and is r.s times c modulo n; so it is their greatest common divisor; and r
--                     .h is n divided by it
use Rattle.std.specs.Prelude.{◌≡◌, ℕ, ◌*◌, ◌≤◌, ◌<◌, pos, ◌-ℤ◌}
use Rattle.std.specs.Int.{◌∣◌}
use Rattle.congruence.specs.Congruence.{Multiple}
use Rattle.congruence.specs.declared.modular.Common.{Common}

pub record Modulus (n : ℕ) : Type 0 where
  pub some : 0 < n
  pub most : n ≤ 1000

pub record CommonOf (n c : ℕ) (r : Common) : Type 0 where
  pub some : 0 < r.g
  pub low : r.s ≤ n
  pub part : r.h * r.g ≡ n
  pub divides_n : r.g ∣ n
  pub divides_c : r.g ∣ c
  pub is : Multiple n (pos (r.s * c) -ℤ pos r.g)
