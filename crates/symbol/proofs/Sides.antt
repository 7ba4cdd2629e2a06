-- The ends of a side, by the tests that the code makes, and the neighbour rule as a determinant.
-- Assumes nothing.
use mathlib.Core.Path.{◌≡◌, refl, sym, ◌∙◌, ap}
use mathlib.Core.Bool.{Bool, true, false}
use mathlib.Core.List.{List}
use Prim.Native.Nat.{ℕ, suc, ◌-◌, ◌<◌, ◌≤◌}
use native.Mathlib.Omega.{arith}
use lib.Dec.{ltb, eqb, lit<, lit≤}
use borrow.Author.Tests.{lt-ltb, le-ltb, eqb-true, eqb-false}
use lib.IntN.{ℤ, pos, negsuc}
use mir.Syntax.{w64}
use mir.Val.{SFits, of_z}
use Rattle.matrix.specs.Matrix.{det, mat_s, mat_q}
use Rattle.matrix.specs.Bounds.{Small, DetFits}
use Rattle.matrix.proofs.Bounds.{roomy}
use Rattle.symbol.specs.Table.{numer, denom, left_num, left_den, right_num, right_den, frame, gap}
use Rattle.symbol.specs.Check.{eq_z}
use Rattle.symbol.specs.Inner.Ready.{SmallSide}
use Rattle.symbol.specs.declared.Side.{Side}
use Rattle.symbol.proofs.Choice.{eq_z_true, eq_eq_z}
use Rattle.basics.proofs.Choice.{pick_true, pick_false}
use Rattle.symbol.proofs.Signed.{bits_positive}

module _ (t : List ℤ) (i : ℕ) where
  pub left_first : i ≡ 0 → (left_num t i ≡ negsuc 0) × (left_den t i ≡ pos 0)
  left_first e = (ap (left_num t) e, ap (left_den t) e)

  pub left_later : (i ≡ 0 → ⊥) → (left_num t i ≡ numer t (i - 1)) × (left_den t i ≡ denom t (i - 1))
  left_later h = let e : i ≡ suc (i - 1) = omega arith in (ap (left_num t) e, ap (left_den t) e)

module _ (v : ℕ) (t : List ℤ) (i : ℕ) where
  pub right_inside : i < v → (right_num v t i ≡ numer t i) × (right_den v t i ≡ denom t i)
  right_inside h = (pick_true (ltb i v) (numer t i) (pos 1) (lt-ltb i v h), pick_true (ltb i v) (denom t i) (pos 0) (lt-ltb i v h))

  pub right_last : v ≤ i → (right_num v t i ≡ pos 1) × (right_den v t i ≡ pos 0)
  right_last h = (pick_false (ltb i v) (numer t i) (pos 1) (le-ltb i v h), pick_false (ltb i v) (denom t i) (pos 0) (le-ltb i v h))

pub gap_det : (s : Side) → gap s ≡ det (frame s)
unfolding det
gap_det s = refl

pub side_roomy : (s : Side) → SmallSide s → DetFits (frame s)
side_roomy s h = roomy 1000000000 (frame s) (lit< tt) h

pub small_S : Small 1 mat_s
unfolding mat_s
small_S = record { in_a = lit≤ tt; in_b = lit≤ tt; in_c = lit≤ tt; in_d = lit≤ tt }

pub small_Q : Small 1 mat_q
unfolding mat_q
small_Q = record { in_a = lit≤ tt; in_b = lit≤ tt; in_c = lit≤ tt; in_d = lit≤ tt }

-- the code compares the bits with 1
pub is_one : (x : ℤ) → SFits w64 x → eqb (of_z w64 x) 1 ≡ eq_z x (pos 1)
is_one x f = go (eqb (of_z w64 x) 1) refl
  where
    go : (b : Bool) → eqb (of_z w64 x) 1 ≡ b → eqb (of_z w64 x) 1 ≡ eq_z x (pos 1)
    go true e = e ∙ sym (eq_eq_z x (pos 1) (bits_positive x 1 f (lit< tt) (eqb-true (of_z w64 x) 1 e)))
    go false e = e ∙ sym (other (eq_z x (pos 1)) refl)
      where
        other : (c : Bool) → eq_z x (pos 1) ≡ c → eq_z x (pos 1) ≡ false
        other true h = absurd (eqb-false (of_z w64 x) 1 e (ap (of_z w64) (eq_z_true x (pos 1) h)))
        other false h = h
