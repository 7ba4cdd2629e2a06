-- THE RIEMANN–HURWITZ FORMULA for two permutations and their product: on n points that the two connect, their cycles
-- and those of the product are n + 2 - 2 g in number, with a whole g from 0. It is the genus of the surface that covers
-- the sphere n times, with three points over which it branches as the three permutations say. The proof is
-- `riemann_hurwitz`, in proofs/RiemannHurwitz.antt.
--
--   cycle_number t       the number of cycles of the table t
--   Transitive s r       s and r are permutations of the same points, at least one, and lead from point 0 to every
--                        point
--   RiemannHurwitz s r   the formula, with its genus
use Rattle.std.specs.Prelude.{◌≡◌, List, ℕ, ◌+◌, ◌*◌, ◌<◌, length}
use Rattle.numbering.specs.Order.{Reached}
use Rattle.numbering.specs.Table.{image_at, ◌then_table◌, Permutes}
use Rattle.figures.specs.Cusps.{cusps}

abbrev pub cycle_number : List ℕ → ℕ
cycle_number t = length (cusps t)

pub record Transitive (s r : List ℕ) : Type 0 where
  pub some : 0 < length s
  pub as_many : length r ≡ length s
  pub permutes_S : Permutes s
  pub permutes_R : Permutes r
  pub reached : (x : ℕ) → x < length s → Reached (image_at s) (image_at r) 0 x

pub record RiemannHurwitz (s r : List ℕ) : Type 0 where
  pub genus : ℕ
  pub formula : cycle_number s + cycle_number r + cycle_number (s then_table r) + 2 * genus ≡ length s + 2
