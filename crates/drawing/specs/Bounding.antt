-- THE BOX of a drawing: it holds every arc's ends and every line's place, and no more.
--
--   lefts v t i, rights v t i, heights v t i   how far side i goes to the left, to the right, and up
--   box_to v t n   the box of the first n sides, n at least 1: the least and the greatest of these numbers, and a
--                  bottom of 0
--   Radius v t x   x is the radius of an arc of the drawing
--   Tight v t b    b holds all sides of the symbol, and each border is a number of one of them. The top is at least
--                  every radius, each of which is above 0, and is one of them; without arcs it is 0. All these floats
--                  are finite
--
-- proofs/Picture.antt, `tight`: the box of all sides is tight, for every symbol with vertex entries of size at most
-- 33,554,432.
use Rattle.std.specs.Prelude.{◌≡◌, List, ℕ, ◌+◌, ◌≤◌, T, ℤ, Float}
use Rattle.std.specs.Float.Ieee.{lt, le}
use Rattle.std.specs.Float.Ieee.Scale.{finite}
use Rattle.drawing.specs.Quotient.{float_of}
use Rattle.drawing.specs.Extreme.{least_of, greatest_of, OneOf}
use Rattle.drawing.specs.Drawn.{drawn_at, left_reach, right_reach, height}
use Rattle.drawing.specs.declared.Drawn.TheVariants.{Arc}
use Rattle.drawing.specs.declared.BoundingBox.{BoundingBox}

abbrev pub lefts : ℕ → List ℤ → ℕ → Float
lefts v t i = left_reach (drawn_at v t i)

abbrev pub rights : ℕ → List ℤ → ℕ → Float
rights v t i = right_reach (drawn_at v t i)

abbrev pub heights : ℕ → List ℤ → ℕ → Float
heights v t i = height (drawn_at v t i)

abbrev pub box_to : ℕ → List ℤ → ℕ → BoundingBox
box_to v t n = record {
  left = least_of (lefts v t) n;
  right = greatest_of (rights v t) n;
  bottom = float_of 0;
  top = greatest_of (heights v t) n;
}

pub record Radius (v : ℕ) (t : List ℤ) (x : Float) : Type 0 where
  pub at : ℕ
  pub on : at ≤ v
  pub centre : Float
  pub is : drawn_at v t at ≡ Arc centre x

pub record Tight (v : ℕ) (t : List ℤ) (b : BoundingBox) : Type 0 where
  pub left : (i : ℕ) → i ≤ v → T (le b.left (lefts v t i))
  pub right : (i : ℕ) → i ≤ v → T (le (rights v t i) b.right)
  pub bottom : b.bottom ≡ float_of 0
  pub top : (i : ℕ) → i ≤ v → T (le (heights v t i) b.top)
  pub left_one : OneOf (lefts v t) (v + 1) b.left
  pub right_one : OneOf (rights v t) (v + 1) b.right
  pub top_one : OneOf (heights v t) (v + 1) b.top
  pub in_order_is : (i : ℕ) → i ≤ v → T (le (lefts v t i) (rights v t i))
  pub rises : (i : ℕ) (c r : Float) → i ≤ v → drawn_at v t i ≡ Arc c r → T (lt (float_of 0) r)
  pub top_arc : (i : ℕ) (c r : Float) → i ≤ v → drawn_at v t i ≡ Arc c r → Radius v t b.top
  pub top_flat : ((i : ℕ) (c r : Float) → i ≤ v → drawn_at v t i ≡ Arc c r → ⊥) → b.top ≡ float_of 0
  pub left_finite : T (finite b.left)
  pub right_finite : T (finite b.right)
  pub top_finite : T (finite b.top)
