-- Why matrices can be computed with in 64 signed bits: from bounds on the entries to what the code asks.
--
-- In order: a bounded integer fits (`fits`), and what fits is kept (`kept`); the parts of x y + z w fit where their sizes do (`left_fits`, `right_fits`,
-- `sum_fits`, `difference_fits`); bounds on a product's, an adjugate's and a negative's entries (`small-⊗`, `small_adj`, `small_neg`), and that small entries
-- leave room (`room`, `roomy`, `small_more`). Assumes nothing.
use mathlib.Core.Path.{◌≡◌}
use Prim.Native.Nat.{ℕ, ◌+◌, ◌*◌, ◌-◌, ◌^◌, ◌≤◌, ◌<◌}
use native.Mathlib.Omega.{arith}
use native.Mathlib.Nat.{mul-le-mul}
use lib.IntN.{ℤ, pos, negsuc, neg_ℤ, nat_abs, ◌+ℤ◌, ◌-ℤ◌, ◌*ℤ◌, +ℤ_idl}
use mir.Syntax.{w64}
use mir.Val.{SFits, to_z, of_z}
use mir.Facts.{to_z-of_z}
use lib.Signed.{mag}
use Rattle.matrix.specs.Matrix.{Mat, ◌⊗◌, neg, adj}
use Rattle.matrix.specs.Bounds.{Small, Adds, ProductFits, DetFits}
use Rattle.matrix.proofs.Integer.{abs_neg, abs-*, abs-+}

pub fits : (z : ℤ) → nat_abs z < 2 ^ 63 → SFits w64 z
fits (pos n) h = record { sfits = h }
fits (negsuc n) h = record { sfits = omega arith }

-- a number that went through a place of 64 signed bits is the number
pub kept : (z : ℤ) → mag z < 2 ^ 63 → to_z w64 (of_z w64 z) ≡ z
kept z h = to_z-of_z {w = w64} {z = z} (record { sfits = h })

module _ {x y z w : ℤ} (h : Adds x y z w) where
  pub left_fits : SFits w64 (x *ℤ y)
  left_fits = fits (x *ℤ y) (omega (arith, abs-* x y))

  pub right_fits : SFits w64 (z *ℤ w)
  right_fits = fits (z *ℤ w) (omega (arith, abs-* z w))

  pub sum_fits : SFits w64 (x *ℤ y +ℤ z *ℤ w)
  sum_fits = fits (x *ℤ y +ℤ z *ℤ w) (omega (arith, abs-+ (x *ℤ y) (z *ℤ w), abs-* x y, abs-* z w))

  pub difference_fits : SFits w64 (x *ℤ y -ℤ z *ℤ w)
  difference_fits = fits (x *ℤ y -ℤ z *ℤ w) (omega (arith, abs-+ (x *ℤ y) (neg_ℤ (z *ℤ w)), abs_neg (z *ℤ w), abs-* x y, abs-* z w))

-- ---- bounds on entries

pub small_more : (h k : ℕ) (m : Mat) → h ≤ k → Small h m → Small k m
small_more h k m l s = omega arith

pub small_neg : (h : ℕ) (m : Mat) → Small h m → Small h (neg m)
unfolding neg
small_neg h m s = record { in_a = rw abs_neg s.in_a; in_b = rw abs_neg s.in_b; in_c = rw abs_neg s.in_c; in_d = rw abs_neg s.in_d }

pub small_adj : (h : ℕ) (m : Mat) → Small h m → Small h (adj m)
unfolding adj
small_adj h m s = record { in_a = s.in_d; in_b = rw abs_neg s.in_b; in_c = rw abs_neg s.in_c; in_d = s.in_a }

small_sum : (h k : ℕ) (x y z w : ℤ) → nat_abs x ≤ h → nat_abs y ≤ k → nat_abs z ≤ h → nat_abs w ≤ k → nat_abs x * nat_abs y + nat_abs z * nat_abs w ≤ 2 * (h * k)
small_sum h k x y z w a b c d = omega (arith, mul-le-mul a b, mul-le-mul c d)

small_entry : (h k : ℕ) (x y z w : ℤ) → nat_abs x ≤ h → nat_abs y ≤ k → nat_abs z ≤ h → nat_abs w ≤ k → nat_abs (x *ℤ y +ℤ z *ℤ w) ≤ 2 * (h * k)
small_entry h k x y z w a b c d = omega (arith, abs-+ (x *ℤ y) (z *ℤ w), abs-* x y, abs-* z w, small_sum h k x y z w a b c d)

pub small-⊗ : (h k : ℕ) (m n : Mat) → Small h m → Small k n → Small (2 * (h * k)) (m ⊗ n)
unfolding ◌⊗◌
small-⊗ h k m n s t = record {
  in_a = small_entry h k m.a n.a m.b n.c s.in_a t.in_a s.in_b t.in_c;
  in_b = small_entry h k m.a n.b m.b n.d s.in_a t.in_b s.in_b t.in_d;
  in_c = small_entry h k m.c n.a m.d n.c s.in_c t.in_a s.in_d t.in_c;
  in_d = small_entry h k m.c n.b m.d n.d s.in_c t.in_b s.in_d t.in_d;
}

-- small entries leave room for the product and the determinant
pub room : (h k : ℕ) (m n : Mat) → 2 * (h * k) < 2 ^ 63 → Small h m → Small k n → ProductFits m n
room h k m n l s t = record {
  in_a = omega (arith, small_sum h k m.a n.a m.b n.c s.in_a t.in_a s.in_b t.in_c);
  in_b = omega (arith, small_sum h k m.a n.b m.b n.d s.in_a t.in_b s.in_b t.in_d);
  in_c = omega (arith, small_sum h k m.c n.a m.d n.c s.in_c t.in_a s.in_d t.in_c);
  in_d = omega (arith, small_sum h k m.c n.b m.d n.d s.in_c t.in_b s.in_d t.in_d);
}

pub roomy : (h : ℕ) (m : Mat) → 2 * (h * h) < 2 ^ 63 → Small h m → DetFits m
roomy h m l s = omega (arith, small_sum h h m.a m.d m.b m.c s.in_a s.in_d s.in_b s.in_c)

-- ---- what the code's needs come to

-- 0 - x, which is how the machine has -x
pub minus : (x : ℤ) → pos 0 -ℤ x ≡ neg_ℤ x
minus x = +ℤ_idl (neg_ℤ x)

pub minus_fits : (x : ℤ) → nat_abs x ≤ 2 ^ 63 - 1 → SFits w64 (pos 0 -ℤ x)
minus_fits x l = rw (minus x) (fits (neg_ℤ x) (omega (arith, abs_neg x)))
