-- What the functions of `drawing` ask and leave.
--
--   Drawable s             the ends of s are of size at most 33,554,432, no denominator is negative, and one of them
--                          isn't 0
--   SmallSymbol v t        a symbol, each of whose vertex entries is at most 33,554,432 in size
--   side_box r             the box of one drawn side
--   joint_box a b          the smallest box that holds two with one bottom
--   put_four i r out       four floats in place of those from 4 i on
--   DrawnTo v t i w w'     w' begins with the rows of the first i sides, and goes on as w does
--   drawing_check v t      the checks 1 to 7, then 22
--   drawn b c              the answer of `draw_symbol`, from the verdict c: the box b, or the refusal
use Rattle.std.specs.Prelude.{Ok, Err}
use Rattle.std.specs.Prelude.{◌≡◌, List, ◌++◌, ℕ, ◌+◌, ◌*◌, ◌≤◌, ◌<◌, ℤ, pos, nat_abs, length, take, drop, Float}
use Rattle.matrix.specs.Matrix.{nth}
use Rattle.call.specs.Refusal.{◌or_else◌, Checked, Answer}
use Rattle.symbol.specs.Check.{symbol_check}
use Rattle.symbol.specs.Symbol.{IsSymbol}
use Rattle.symbol.specs.declared.Side.{Side}
use Rattle.drawing.specs.Quotient.{float_of}
use Rattle.drawing.specs.Extreme.{lesser, greater}
use Rattle.drawing.specs.Drawn.{left_reach, right_reach, height}
use Rattle.drawing.specs.Answer.{drawn_rows, check22}
use Rattle.drawing.specs.declared.Drawn.{Drawn}
use Rattle.drawing.specs.declared.BoundingBox.{BoundingBox}

pub record Drawable (s : Side) : Type 0 where
  pub in_a : nat_abs s.a ≤ 33554432
  pub in_b : nat_abs s.b ≤ 33554432
  pub in_c : nat_abs s.c ≤ 33554432
  pub in_d : nat_abs s.d ≤ 33554432
  pub natural_b : s.b ≡ pos (nat_abs s.b)
  pub natural_d : s.d ≡ pos (nat_abs s.d)
  pub some_finite : 1 ≤ nat_abs s.b + nat_abs s.d

pub record SmallSymbol (v : ℕ) (t : List ℤ) : Type 0 where
  pub symbol : IsSymbol v t
  pub small : (i : ℕ) → i < 2 * v → nat_abs (nth t i) ≤ 33554432

abbrev pub side_box : Drawn → BoundingBox
side_box r = record { left = left_reach r; right = right_reach r; bottom = float_of 0; top = height r }

abbrev pub joint_box : BoundingBox → BoundingBox → BoundingBox
joint_box a b = record {
  left = lesser a.left b.left;
  right = greater a.right b.right;
  bottom = a.bottom;
  top = greater a.top b.top;
}

abbrev pub put_four : ℕ → List Float → List Float → List Float
put_four i r out = take (4 * i) out ++ r ++ drop (4 * i + 4) out

pub record DrawnTo (v : ℕ) (t : List ℤ) (i : ℕ) (out out' : List Float) : Type 0 where
  pub table : out' ≡ drawn_rows v t i ++ drop (4 * i) out
  pub long : length out' ≡ length out

abbrev pub drawing_check : ℕ → List ℤ → Checked
drawing_check v t = symbol_check v t or_else check22 v t

abbrev pub drawn : BoundingBox → Checked → (Answer BoundingBox)
drawn b (Ok tt) = Ok b
drawn b (Err f) = Err f
