-- What the code of the checks remembers, in memory of its own.
--
--   earlier_in t i x    whether x is one of the first i entries of t
--   SeenTo t i seen     a mark for each point: whether it is one of the first i entries of t
--   Entries t           all entries of the table t are points of it
use Rattle.std.specs.Prelude.{◌≡◌, Bool, false, List, ℕ, ◌≤◌, ◌<◌, ltb, eqb, length, get_or}
use Rattle.basics.specs.Count.{first}
use Rattle.permutations.specs.Pair.{image}

abbrev pub earlier_in : List ℕ → ℕ → ℕ → Bool
earlier_in t i x = ltb (first (λ (j : ℕ). eqb (get_or t j 0) x) i) i

pub record SeenTo (t : List ℕ) (i : ℕ) (seen : List Bool) : Type 0 where
  pub long : length seen ≡ 3072
  pub marks : (x : ℕ) → x < 3072 → get_or seen x false ≡ earlier_in t i x

pub record Entries (t : List ℕ) : Type 0 where
  pub most : length t ≤ 3066
  pub low : (x : ℕ) → x < length t → image t x < length t
