-- A determinant in 128 bits: what fits them is kept (`kept`), the products of entries up to 2⁶⁰ and their difference fit (`product_most`, `difference_fits`),
-- and the test on the bits is that on the number (`is_one`). Assumes nothing.
use mathlib.Core.Path.{◌≡◌, refl, sym, ◌∙◌, ap}
use mathlib.Core.Bool.{Bool, true, false}
use Prim.Native.Nat.{◌^◌, ◌≤◌, ◌<◌}
use native.Mathlib.Omega.{arith}
use native.Mathlib.Nat.{mul-le-mul}
use lib.Dec.{eqb}
use lib.IntN.{ℤ, pos, negsuc, neg_ℤ, nat_abs, ◌-ℤ◌, ◌*ℤ◌}
use mir.Syntax.{w128}
use mir.Val.{SFits, to_z, of_z}
use mir.Facts.{to_z-of_z}
use borrow.Author.Tests.{eqb-true, eqb-false}
use Rattle.matrix.proofs.Integer.{abs_neg, abs-*, abs-+}
use Rattle.symbol.specs.Check.{eq_z}
use Rattle.symbol.proofs.Choice.{eq_z_true, eq_eq_z}

fits : (z : ℤ) → nat_abs z < 2 ^ 127 → SFits w128 z
fits (pos n) h = record { sfits = h }
fits (negsuc n) h = record { sfits = omega arith }

pub kept : (z : ℤ) → nat_abs z < 2 ^ 127 → to_z w128 (of_z w128 z) ≡ z
kept z h = to_z-of_z (fits z h)

module _ (x y : ℤ) (h : nat_abs x ≤ 2 ^ 60) (k : nat_abs y ≤ 2 ^ 60) where
  pub product_most : nat_abs (x *ℤ y) ≤ 2 ^ 120
  product_most = omega (arith, abs-* x y, mul-le-mul h k)

pub difference_most : (x y : ℤ) → nat_abs x ≤ 2 ^ 120 → nat_abs y ≤ 2 ^ 120 → nat_abs (x -ℤ y) ≤ 2 ^ 121
difference_most x y h k = omega (arith, abs-+ x (neg_ℤ y), abs_neg y)

pub difference_fits : (x y : ℤ) → nat_abs x ≤ 2 ^ 120 → nat_abs y ≤ 2 ^ 120 → SFits w128 (x -ℤ y)
difference_fits x y h k = fits (x -ℤ y) (omega (arith, difference_most x y h k))

pub is_one : (z : ℤ) → nat_abs z < 2 ^ 127 → eqb (of_z w128 z) 1 ≡ eq_z z (pos 1)
is_one z f = go (eqb (of_z w128 z) 1) refl
  where
    go : (b : Bool) → eqb (of_z w128 z) 1 ≡ b → eqb (of_z w128 z) 1 ≡ eq_z z (pos 1)
    go true e = e ∙ sym (eq_eq_z z (pos 1) (sym (kept z f) ∙ ap (to_z w128) (eqb-true (of_z w128 z) 1 e)))
    go false e = e ∙ sym (other (eq_z z (pos 1)) refl)
      where
        other : (c : Bool) → eq_z z (pos 1) ≡ c → eq_z z (pos 1) ≡ false
        other true h = absurd (eqb-false (of_z w128 z) 1 e (ap (of_z w128) (eq_z_true z (pos 1) h)))
        other false h = h

-- as the code reads the entries
module _ (x y z w x' y' z' w' : ℤ) (a : nat_abs x ≤ 2 ^ 60) (b : nat_abs y ≤ 2 ^ 60) (c : nat_abs z ≤ 2 ^ 60) (d : nat_abs w ≤ 2 ^ 60)
    (e : x' ≡ x) (f : y' ≡ y) (g : z' ≡ z) (i : w' ≡ w) where
  abbrev pub bits : ℤ → ℤ
  bits n = to_z w128 (of_z w128 n)

  wide : (n : ℤ) → nat_abs n ≤ 2 ^ 60 → bits n ≡ n
  wide n h = kept n (omega (arith, h))

  over : bits (bits x' *ℤ bits y') ≡ x *ℤ y
  over =
      ap (λ (n : ℤ). bits (n *ℤ bits y')) (ap bits e ∙ wide x a) ∙ ap (λ (n : ℤ). bits (x *ℤ n)) (ap bits f ∙ wide y b)
      ∙ kept (x *ℤ y) (omega (arith, product_most x y a b))

  under : bits (bits z' *ℤ bits w') ≡ z *ℤ w
  under =
      ap (λ (n : ℤ). bits (n *ℤ bits w')) (ap bits g ∙ wide z c) ∙ ap (λ (n : ℤ). bits (z *ℤ n)) (ap bits i ∙ wide w d)
      ∙ kept (z *ℤ w) (omega (arith, product_most z w c d))

  pub determinant_is : bits (bits x' *ℤ bits y') -ℤ bits (bits z' *ℤ bits w') ≡ x *ℤ y -ℤ z *ℤ w
  determinant_is = ap (λ (n : ℤ). n -ℤ bits (bits z' *ℤ bits w')) over ∙ ap (λ (n : ℤ). x *ℤ y -ℤ n) under

  pub determinant_fits : SFits w128 (bits (bits x' *ℤ bits y') -ℤ bits (bits z' *ℤ bits w'))
  determinant_fits = rw determinant_is (difference_fits (x *ℤ y) (z *ℤ w) (product_most x y a b) (product_most z w c d))

  pub one_by : eqb (of_z w128 (bits (bits x' *ℤ bits y') -ℤ bits (bits z' *ℤ bits w'))) 1 ≡ eq_z (x *ℤ y -ℤ z *ℤ w) (pos 1)
  one_by =
      ap (λ (n : ℤ). eqb (of_z w128 n) 1) determinant_is
      ∙ is_one (x *ℤ y -ℤ z *ℤ w) (omega (arith, difference_most (x *ℤ y) (z *ℤ w) (product_most x y a b) (product_most z w c d)))
