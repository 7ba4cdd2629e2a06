-- Two permutations of points, from their tables.
--
--   image l x           the image of the point x in the table l; what is no place of the table stays where it is
--   Permuting σ ρ n     S and R are permutations of the points below n: S twice moves nothing, R three times moves
--                       nothing
--   Pair s r            s and r are the tables of such a pair
use Rattle.std.specs.Prelude.{◌≡◌, List, ℕ, ◌≤◌, ◌<◌, length, get_or}
use Rattle.matrix.specs.Action.{Involution, OrderThree}

abbrev pub image : List ℕ → ℕ → ℕ
image l x = get_or l x x

pub record Permuting (σ ρ : ℕ → ℕ) (n : ℕ) : Type 0 where
  pub some : 0 < n
  pub twice : Involution σ
  pub thrice : OrderThree ρ
  pub σ_low : (x : ℕ) → x < n → σ x < n
  pub ρ_low : (x : ℕ) → x < n → ρ x < n

pub record Pair (s r : List ℕ) : Type 0 where
  pub permuting : Permuting (image s) (image r) (length s)
  pub even : length r ≡ length s
  pub most : length s ≤ 3066
