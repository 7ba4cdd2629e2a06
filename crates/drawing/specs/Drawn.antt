-- A SIDE AS IT IS DRAWN in the upper half plane: a vertical line where one of its ends is infinity, otherwise a
-- semicircle centred on the real axis. The sides are those of `symbol`: s goes from a/b to c/d. Floats are those of
-- specs/Quotient.antt.
--
--   Drawn                     Line with its place, or Arc with its centre and its radius
--   cross_sum s               a d + c b
--   twice_product s           2 b d
--   arc_of s, drawn_of s      a line at the finite end, or the arc with centre (a d + c b) / (2 b d) and radius 1 / (2
--                             b d): each number is one float division
--   place_num s, place_den s  numerator and denominator of the finite end of a line
--   NearExact s r             every float of r is near the exact number that it stands for: the two differ by at most
--                             the exact number's size divided by 2⁵³
--   CarriedOver s             every whole number that is divided for s becomes a float with nothing lost: a d + c b, 2
--                             b d and 1 for an arc, a, b, c and d for a line
--   drawn_at v t i            side i of the symbol in t
--   left_reach r, right_reach r  how far a drawn side goes to the left and to the right: a line's place; centre -
--                              radius and centre + radius, each rounded once
--   height r                  0 for a line, the radius of an arc
use Rattle.std.specs.Prelude.{ℕ, ◌*◌, List, ℤ, pos, nat_abs, ◌+ℤ◌, ◌*ℤ◌, Float}
use Rattle.std.specs.Float.{binary64}
use Rattle.std.specs.Float.Ieee.{add, sub}
use Rattle.basics.specs.Choice.{pick}
use Rattle.symbol.specs.Check.{eq_z}
use Rattle.symbol.specs.Table.{side_at}
use Rattle.symbol.specs.declared.Side.{Side}
use Rattle.drawing.specs.Quotient.{quotient, float_of, Carried, Near}
use Rattle.drawing.specs.declared.Drawn.{Drawn}
use Rattle.drawing.specs.declared.Drawn.TheVariants.{Line, Arc}

abbrev pub cross_sum : Side → ℤ
cross_sum s = s.a *ℤ s.d +ℤ s.c *ℤ s.b

abbrev pub twice_product : Side → ℤ
twice_product s = pos 2 *ℤ (s.b *ℤ s.d)

abbrev pub arc_of : Side → Drawn
arc_of s = Arc (quotient (cross_sum s) (twice_product s)) (quotient (pos 1) (twice_product s))

abbrev pub drawn_of : Side → Drawn
drawn_of s = pick (eq_z s.b (pos 0)) (Line (quotient s.c s.d))
    (pick (eq_z s.d (pos 0)) (Line (quotient s.a s.b)) (arc_of s))

abbrev pub drawn_at : ℕ → List ℤ → ℕ → Drawn
drawn_at v t i = drawn_of (side_at v t i)

-- ---- near the exact numbers

abbrev pub place_num : Side → ℤ
place_num s = pick (eq_z s.b (pos 0)) s.c s.a

abbrev pub place_den : Side → ℕ
place_den s = pick (eq_z s.b (pos 0)) (nat_abs s.d) (nat_abs s.b)

abbrev pub NearExact : Side → Drawn → Type 0
NearExact s (Line x) = Near (place_num s) (place_den s) x
NearExact s (Arc c r) = Near (cross_sum s) (2 * (nat_abs s.b * nat_abs s.d)) c
    × Near (pos 1) (2 * (nat_abs s.b * nat_abs s.d)) r

pub record CarriedOver (s : Side) : Type 0 where
  pub cross_sum_is : Carried (cross_sum s)
  pub twice_product_is : Carried (twice_product s)
  pub one : Carried (pos 1)
  pub left_numerator : Carried s.a
  pub left_denominator : Carried s.b
  pub right_numerator : Carried s.c
  pub right_denominator : Carried s.d

-- ---- how far it goes

abbrev pub left_reach : Drawn → Float
left_reach (Line x) = x
left_reach (Arc c r) = sub binary64 c r

abbrev pub right_reach : Drawn → Float
right_reach (Line x) = x
right_reach (Arc c r) = add binary64 c r

abbrev pub height : Drawn → Float
height (Line x) = float_of 0
height (Arc c r) = r
