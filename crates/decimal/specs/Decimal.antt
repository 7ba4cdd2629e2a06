-- The decimal form of a number: a minus where it is negative, and then its digits with no zero in front, or 0.
--     digits_onto fuel n t    the digits of n in front of t, where n has no more than fuel + 1 of them
--     digits n                the digits of n; it has no more than n + 1
--     decimal_of z            the decimal form of z
use Rattle.std.specs.Prelude.{ℕ, zero, suc, ◌+◌, ◌/◌, ◌%◌, true, false, List, [], ◌∷◌, ltb, ℤ, pos, negsuc}

unfoldable pub digits_onto : ℕ → ℕ → List ℕ → List ℕ
digits_onto zero n t = (48 + n % 10) ∷ t
digits_onto (suc fuel) n t =
    elim (ltb n 10) [ true ↦ (48 + n % 10) ∷ t | false ↦ digits_onto fuel (n / 10) ((48 + n % 10) ∷ t) ]

unfoldable pub digits : ℕ → List ℕ
digits n = digits_onto n n []

unfoldable pub decimal_of : ℤ → List ℕ
decimal_of (pos n) = digits n
decimal_of (negsuc n) = 45 ∷ digits (suc n)
