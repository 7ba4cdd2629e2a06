-- FLOATS AS FRACTIONS: a finite float of 64 bits is a whole number over 1 or a power of two. The operations are those
-- of IEEE 754's binary64, as the logic has them.
--
--   signed_by, numerator r   a finite float r is the fraction numerator r / den r; `den` is the logic's own
--   quotient x y       the float that one division gives for the whole numbers x and y, each carried over to a float
--   float_of n          the float that is n
--   Exact x r          r is finite, and it is the whole number x: nothing was lost
--   Carried x          x goes over to a float with nothing lost
--   Near x y r         r is finite, and it differs from x / y by at most the size of x / y divided by 2⁵³. With r the
--                      fraction p / q this is |p y - x q| 2⁵³ ≤ |x| q, a statement of whole numbers
--
-- proofs/Quotient.antt, `exact`: a whole number of size at most 2⁵³ is carried over. `near`: the quotient of two such
-- numbers is near the exact one. `by_one`: divided by 1, it is exact.
use Rattle.std.specs.Prelude.{◌≡◌, Bool, true, false, ℕ, ◌*◌, ◌^◌, ◌≤◌, T, ℤ, pos, neg_ℤ, nat_abs, ◌-ℤ◌, ◌*ℤ◌, Float}
use Rattle.std.specs.Float.{nan, inf, fin, binary64}
use Rattle.std.specs.Float.Ieee.{up, div, of_int}
use Rattle.std.specs.Float.Ieee.Scale.{finite}
use Rattle.std.specs.Float.Ieee.Positive.{den}

-- n, or -n where the sign says so
abbrev pub signed_by : Bool → ℕ → ℤ
signed_by false n = pos n
signed_by true n = neg_ℤ (pos n)

abbrev pub numerator : Float → ℤ
numerator nan = pos 0
numerator (inf s) = pos 0
numerator (fin s m e) = signed_by s (m * up e)

unfoldable pub quotient : ℤ → ℤ → Float
quotient x y = div binary64 (of_int binary64 x) (of_int binary64 y)

unfoldable pub float_of : ℕ → Float
float_of n = of_int binary64 (pos n)

pub record Exact (x : ℤ) (r : Float) : Type 0 where
  pub is_finite : T (finite r)
  pub equal : numerator r ≡ x *ℤ pos (den r)

abbrev pub Carried : ℤ → Type 0
Carried x = Exact x (of_int binary64 x)

pub record Near (x : ℤ) (y : ℕ) (r : Float) : Type 0 where
  pub is_finite : T (finite r)
  pub close : nat_abs (numerator r *ℤ pos y -ℤ x *ℤ pos (den r)) * 2 ^ 53 ≤ nat_abs x * den r
