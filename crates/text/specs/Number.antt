-- Decimal numbers of 64 signed bits: a minus (45) or none, and then one digit (48 to 57) or more.
--     is_digit b         b is a digit
--     onward m t         the number whose digits are those of m and then t; none where t holds another byte
--     natural_from t     the number that t is written as, in digits only; none where t is empty or holds another byte
--     within most n      the number n where it is at most `most`; none where it is not, or where there is none
--     mapped f n         f of the number n; none where there is none
--     integer_from t     the number that t is written as; none where t is no decimal number from -2^63 to 2^63 - 1
use Rattle.std.specs.Prelude.{ℕ, ◌+◌, ◌-◌, ◌*◌, ◌^◌, Bool, true, false, ◌&&◌, List}
use Rattle.std.specs.Prelude.{[], ◌∷◌, eqb, leb, ℤ, pos, neg_ℤ, Option, None, Some}
use Rattle.basics.specs.Choice.{pick}

unfoldable pub is_digit : ℕ → Bool
is_digit b = leb 48 b && leb b 57

unfoldable pub onward : ℕ → List ℕ → Option ℕ
onward m [] = Some m
onward m (b ∷ t) = elim (is_digit b) [ true ↦ onward (m * 10 + (b - 48)) t | false ↦ None ]

unfoldable pub natural_from : List ℕ → Option ℕ
natural_from [] = None
natural_from (b ∷ t) = onward 0 (b ∷ t)

unfoldable pub within : ℕ → Option ℕ → Option ℕ
within most None = None
within most (Some n) = pick (leb n most) (Some n) None

abbrev pub mapped : (ℕ → ℤ) → Option ℕ → Option ℤ
mapped f None = None
mapped f (Some n) = Some (f n)

unfoldable pub integer_from : List ℕ → Option ℤ
integer_from [] = None
integer_from (b ∷ t) =
    pick (eqb b 45)
    (mapped (λ n. neg_ℤ (pos n)) (within (2 ^ 63) (natural_from t)))
    (mapped pos (within (2 ^ 63 - 1) (natural_from (b ∷ t))))
