-- UNITS MODULO q.
--
--   Inverses q u v         u v is 1 modulo q
--   SignedPower q g h u v  u is g^i or -g^i modulo q for some i from 0 on, and v is the same of h
--   UnitPair q g h         g and h are from 1 to q, and inverse to each other modulo q
--   Generating q g h       such a pair, and each unit is g^i or -g^i: g and -1 generate the units
use Rattle.std.specs.Prelude.{ℕ, ◌≤◌, ◌<◌, ℤ, pos, ◌+ℤ◌, ◌-ℤ◌, ◌*ℤ◌}
use Rattle.congruence.specs.Congruence.{Multiple}

abbrev pub Inverses : ℕ → ℤ → ℤ → Type 0
Inverses q u v = Multiple q (u *ℤ v -ℤ pos 1)

pub data SignedPower (q : ℕ) (g h : ℤ) : ℤ → ℤ → Type 0 where
  one : (x y : ℤ) → Multiple q (x -ℤ pos 1) → Multiple q (y -ℤ pos 1) → SignedPower q g h x y
  more : (u v x y : ℤ) → SignedPower q g h u v → Multiple q (x -ℤ u *ℤ g) → Multiple q (y -ℤ v *ℤ h)
      → SignedPower q g h x y
  minus : (u v x y : ℤ) → SignedPower q g h u v → Multiple q (x +ℤ u) → Multiple q (y +ℤ v) → SignedPower q g h x y

pub record UnitPair (q g h : ℕ) : Type 0 where
  pub g_some : 0 < g
  pub g_low : g ≤ q
  pub h_some : 0 < h
  pub h_low : h ≤ q
  pub inverses : Inverses q (pos g) (pos h)

pub record Generating (q g h : ℕ) : Type 0 where
  pub pair : UnitPair q g h
  pub spans : (u v : ℤ) → Inverses q u v → SignedPower q (pos g) (pos h) u v
