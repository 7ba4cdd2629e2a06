-- The whole numbers of a side, and how they go into floats: they fit 64 bits and are at most 2⁵³ in size.
--
-- In order: literals (`is_0`, `is_1`); the test for 0 (`some_size`, `none_size`); what goes through 64 bits (`held`); the numbers of a drawable
-- side (`cross_adds`, `cross_small`, `twice_small`, `twice_is`).
-- Assumes nothing.
use mathlib.Core.Path.{◌≡◌, refl, ◌∙◌, ap}
use mathlib.Core.Bool.{true, false, true≢false}
use Prim.Native.Nat.{ℕ, zero, suc, ◌*◌, ◌^◌, ◌≤◌, ◌<◌}
use native.Mathlib.Omega.{arith}
use native.Mathlib.Nat.{mul-le-mul, mul-pos}
use lib.Dec.{lit<}
use lib.IntN.{ℤ, pos, negsuc, nat_abs, ◌*ℤ◌}
use lib.Ieee.{binary64, of_bits, of_int}
use mir.Syntax.{w64}
use mir.Val.{SFits, to_z, of_z}
use mir.Facts.{to_z-of_z}
use Rattle.matrix.specs.Bounds.{Adds}
use Rattle.matrix.proofs.Integer.{abs-*, abs-+}
use Rattle.matrix.proofs.Bounds.{fits}
use Rattle.symbol.specs.Check.{eq_z}
use Rattle.symbol.specs.declared.Side.{Side}
use Rattle.symbol.proofs.Choice.{eq_z_true}
use Rattle.drawing.specs.Quotient.{float_of}
use Rattle.drawing.specs.Drawn.{cross_sum, twice_product}
use Rattle.drawing.specs.Inner.Ready.{Drawable}

-- ---- literals

pub is_0 : of_bits binary64 0 ≡ float_of 0
unfolding of_bits of_int float_of
is_0 = refl

pub is_1 : of_bits binary64 0x3ff0_0000_0000_0000 ≡ float_of 1
unfolding of_bits of_int float_of
is_1 = refl

-- ---- comparisons

pub some_size : (x : ℤ) → x ≡ pos (nat_abs x) → eq_z x (pos 0) ≡ false → 1 ≤ nat_abs x
some_size (pos zero) e f = absurd (true≢false f)
some_size (pos (suc n)) e f = omega arith
some_size (negsuc n) e f = omega arith

pub none_size : (x : ℤ) → eq_z x (pos 0) ≡ true → nat_abs x ≡ 0
none_size x e = ap nat_abs (eq_z_true x (pos 0) e)

-- ---- casts

-- an entry that went through a place of 64 signed bits
pub held : (z : ℤ) → nat_abs z ≤ 33554432 → to_z w64 (of_z w64 z) ≡ z
held z h = to_z-of_z {w = w64} {z = z} (fits z (omega arith))

-- ---- the numbers of a side

-- (2 ^ 25)² is 2 ^ 50
product : (m n : ℕ) → m ≤ 33554432 → n ≤ 33554432 → m * n ≤ 1125899906842624
product m n h k = mul-le-mul h k

module _ (s : Side) (h : Drawable s) where
  ad : nat_abs s.a * nat_abs s.d ≤ 1125899906842624
  ad = product (nat_abs s.a) (nat_abs s.d) h.in_a h.in_d

  cb : nat_abs s.c * nat_abs s.b ≤ 1125899906842624
  cb = product (nat_abs s.c) (nat_abs s.b) h.in_c h.in_b

  bd : nat_abs s.b * nat_abs s.d ≤ 1125899906842624
  bd = product (nat_abs s.b) (nat_abs s.d) h.in_b h.in_d

  pub cross_adds : Adds s.a s.d s.c s.b
  cross_adds = record { within = omega (arith, ad, cb) }

  pub cross_small : nat_abs (cross_sum s) ≤ 2251799813685248
  cross_small = omega (arith, abs-+ (s.a *ℤ s.d) (s.c *ℤ s.b), abs-* s.a s.d, abs-* s.c s.b, ad, cb)

  once_small : nat_abs (s.b *ℤ s.d) ≤ 1125899906842624
  once_small = omega (arith, abs-* s.b s.d, bd)

  pub twice_small : nat_abs (twice_product s) ≤ 2251799813685248
  twice_small = omega (arith, abs-* (pos 2) (s.b *ℤ s.d), once_small)

  pub once_fits : SFits w64 (s.b *ℤ s.d)
  once_fits = fits (s.b *ℤ s.d) (omega (arith, once_small))

  pub twice_fits : SFits w64 (twice_product s)
  twice_fits = fits (twice_product s) (omega (arith, twice_small))

  -- no denominator is negative, so the size of 2 b d is 2 b d
  abbrev pub twice_size : ℕ
  twice_size = 2 * (nat_abs s.b * nat_abs s.d)

  pub twice_is : twice_product s ≡ pos twice_size
  twice_is = ap (λ (x : ℤ). pos 2 *ℤ (x *ℤ s.d)) h.natural_b ∙ ap (λ (x : ℤ). pos 2 *ℤ (pos (nat_abs s.b) *ℤ x)) h.natural_d

  pub twice_in : eq_z s.b (pos 0) ≡ false → eq_z s.d (pos 0) ≡ false → (0 < twice_size) × (twice_size ≤ 2 ^ 53)
  twice_in e f = (mul-pos (lit< tt) (mul-pos (some_size s.b h.natural_b e) (some_size s.d h.natural_d f)), omega (arith, bd))
