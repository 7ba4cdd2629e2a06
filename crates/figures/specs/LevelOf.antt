-- The level (docs/CONVENTIONS.md, 5): the least common multiple of the widths, refused with 17 at or over 2^64.
--     euclid k a b      k rounds of Euclid's rule; b rounds are enough, since the remainders fall
--     gcd a b           the greatest common divisor, by Euclid's rule
--     lcm a b           the least common multiple of two numbers
--     lcm_from m l      the least common multiple of m and of all of l
--     lcm_of l          the least common multiple of all of l; 1 where l is empty
--     TOO_LARGE         2^64
--     fitting m         m where it is below 2^64, else refusal 17, place 0
--     level_of l        lcm_of l where it is below 2^64, else refusal 17, place 0
--     Positive l        no entry of l is 0
--     LeastMultiple l m THE THEOREM on m = lcm_of l: every entry of l divides m, and m divides whatever all entries
--       divide
-- `proofs/LevelOf.antt` proves `lcm_of_is : Positive l → LeastMultiple l (lcm_of l)`.
use Rattle.std.specs.Prelude.{List, [], ◌∷◌, ℕ, zero, suc, ◌*◌, ◌/◌, ◌%◌, ◌<◌, length, get_or, ltb, Ok, Err}
use Rattle.std.specs.Int.{◌∣◌}
use Rattle.basics.specs.Choice.{pick}
use Rattle.call.specs.Refusal.{Filled}
use Rattle.call.specs.declared.refusal.Refusal.TheVariants.{LevelTooLarge}

unfoldable pub euclid : ℕ → ℕ → ℕ → ℕ
euclid zero a b = a
euclid (suc k) a zero = a
euclid (suc k) a (suc b) = euclid k (suc b) (a % suc b)

abbrev pub gcd : ℕ → ℕ → ℕ
gcd a b = euclid b a b

abbrev pub lcm : ℕ → ℕ → ℕ
lcm a b = a / gcd a b * b

unfoldable pub lcm_from : ℕ → List ℕ → ℕ
lcm_from m [] = m
lcm_from m (x ∷ l) = lcm_from (lcm m x) l

abbrev pub lcm_of : List ℕ → ℕ
lcm_of l = lcm_from 1 l

abbrev pub TOO_LARGE : ℕ
TOO_LARGE = 18446744073709551616

abbrev pub fitting : ℕ → Filled
fitting m = pick (ltb m TOO_LARGE) (Ok m) (Err LevelTooLarge)

abbrev pub level_of : List ℕ → Filled
level_of l = fitting (lcm_of l)

pub record Positive (l : List ℕ) : Type 0 where
  pub each : (j : ℕ) → j < length l → 0 < get_or l j 0

pub record LeastMultiple (l : List ℕ) (m : ℕ) : Type 0 where
  pub some : 0 < m
  pub each : (j : ℕ) → j < length l → get_or l j 0 ∣ m
  pub least : (c : ℕ) → ((j : ℕ) → j < length l → get_or l j 0 ∣ c) → m ∣ c
