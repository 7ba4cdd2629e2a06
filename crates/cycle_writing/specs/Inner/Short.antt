-- Permutations whose cycles have three points at most: S has order two and R has order three, and one loop writes
-- either.
--
--     ShortTable t         the table t takes its points to points, and back to themselves in two steps or in three; it
--                          has 3,066 points at most
--     StartIn t x          x is a point of it, where a cycle begins
--     bytes_at t x          the bytes of the cycle that begins at x, or none
--     bytes_below t k      the bytes of the cycles that begin below k
use Rattle.std.specs.Prelude.{◌≡◌, ◌⊎◌, true, List, [], ℕ, ◌≤◌, ◌<◌, length}
use Rattle.basics.specs.Choice.{pick}
use Rattle.numbering.specs.Table.{image_at}
use Rattle.figures.specs.Cusps.{cycle}
use Rattle.cycle_writing.specs.Cycles.{begins_cycle, points_from_one, cycles_below}
use Rattle.cycle_writing.specs.Bytes.{cycle_bytes, cycles_bytes}

pub record ShortTable (t : List ℕ) : Type 0 where
  pub most : length t ≤ 3066
  pub low : (x : ℕ) → x < length t → image_at t x < length t
  pub short : (x : ℕ) → x < length t → (image_at t (image_at t x) ≡ x) ⊎ (image_at t (image_at t (image_at t x)) ≡ x)

pub record StartIn (t : List ℕ) (x : ℕ) : Type 0 where
  pub table : ShortTable t
  pub below : x < length t
  pub begins : begins_cycle t x ≡ true

unfoldable pub bytes_at : List ℕ → ℕ → List ℕ
bytes_at t x = pick (begins_cycle t x) (cycle_bytes (points_from_one (cycle t x))) []

unfoldable pub bytes_below : List ℕ → ℕ → List ℕ
bytes_below t k = cycles_bytes (cycles_below t k)
