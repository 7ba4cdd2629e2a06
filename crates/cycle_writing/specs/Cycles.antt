-- The cycles of a permutation in the order of an export. The crate figures has the cycles of a table: `cycle t x` is
-- the cycle of x, from x on, `smallest t x` says whether x is its smallest point, and `is_fixed t x` whether t fixes x.
--
--     begins_cycle t x    t moves x, and x is the smallest point of its cycle
--     points_from_one c   points that count from 0, counted from 1 as in a text
--     cycles_below t k    the cycles of more than one point that begin below k, each from its smallest point, ordered
--                         by it
--     cycles_of t         all of these
use Rattle.std.specs.Prelude.{Bool, not, ◌&&◌, List, map, ℕ, suc, length}
use Rattle.basics.specs.Count.{those}
use Rattle.figures.specs.Cusps.{is_fixed, cycle, smallest}

unfoldable pub begins_cycle : List ℕ → ℕ → Bool
begins_cycle t x = not (is_fixed t x) && smallest t x

abbrev pub points_from_one : List ℕ → List ℕ
points_from_one c = map (λ (x : ℕ). suc x) c

unfoldable pub cycles_below : List ℕ → ℕ → List (List ℕ)
cycles_below t k = map (λ (x : ℕ). points_from_one (cycle t x)) (those (begins_cycle t) k)

abbrev pub cycles_of : List ℕ → List (List ℕ)
cycles_of t = cycles_below t (length t)
