-- The least and the greatest of some floats, by the float comparison.
--
--   lesser a b, greater a b       of two floats; of two equal ones the first
--   least_of f n, greatest_of f n  of f 0, f 1, .. f (n - 1); n is at least 1
--   OneOf f n x                   x is one of these
--
-- proofs/Extreme.antt: over finite floats the least is one of them (`least_one`), and it is at most each of them
-- (`least_below`); so is the greatest.
use Rattle.std.specs.Prelude.{◌≡◌, cond, ℕ, zero, suc, ◌<◌, Float}
use Rattle.std.specs.Float.Ieee.{lt}

abbrev pub lesser : Float → Float → Float
lesser a b = cond (lt b a) b a

abbrev pub greater : Float → Float → Float
greater a b = cond (lt a b) b a

unfoldable pub least_of : (ℕ → Float) → ℕ → Float
least_of f zero = f 0
least_of f (suc n) = lesser (least_of f n) (f n)

unfoldable pub greatest_of : (ℕ → Float) → ℕ → Float
greatest_of f zero = f 0
greatest_of f (suc n) = greater (greatest_of f n) (f n)

pub record OneOf (f : ℕ → Float) (n : ℕ) (x : Float) : Type 0 where
  pub at : ℕ
  pub on : at < n
  pub is : x ≡ f at
