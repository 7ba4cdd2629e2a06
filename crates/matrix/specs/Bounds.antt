-- Bounds under which matrices can be computed with in 64 signed bits.
--
--   Small h m        no entry of m is larger than h in size
--   Adds x y z w     x y + z w can be formed: the sizes of the two products add up to less than 2⁶³
--   ProductFits m n  each of the four entries of m ⊗ n can be formed
--   DetFits m        det m can be formed
use Rattle.std.specs.Prelude.{ℕ, ◌+◌, ◌*◌, ◌^◌, ◌≤◌, ◌<◌, ℤ, nat_abs}
use Rattle.matrix.specs.Matrix.{Mat}

pub record Small (h : ℕ) (m : Mat) : Type 0 where
  pub in_a : nat_abs m.a ≤ h
  pub in_b : nat_abs m.b ≤ h
  pub in_c : nat_abs m.c ≤ h
  pub in_d : nat_abs m.d ≤ h

pub record Adds (x y z w : ℤ) : Type 0 where
  pub within : nat_abs x * nat_abs y + nat_abs z * nat_abs w < 2 ^ 63

pub record ProductFits (m n : Mat) : Type 0 where
  pub in_a : Adds m.a n.a m.b n.c
  pub in_b : Adds m.a n.b m.b n.d
  pub in_c : Adds m.c n.a m.d n.c
  pub in_d : Adds m.c n.b m.d n.d

abbrev pub DetFits : Mat → Type 0
DetFits m = Adds m.a m.d m.b m.c
