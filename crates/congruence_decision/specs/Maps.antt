-- THE MAPS OF POINTS in which a prime is tested, of tables s and r of n right cosets. The points may be known by other
-- numbers below n: `point y` is the point that has the number y.
--
--   point_width s r j       the width of the cusp of the point j
--   NumbersPoints n point   point takes the numbers below n one to one to the points
--   Moves n point M N       M moves the numbers as N moves the points
--   Share p w e             e is 1 modulo the power of p that divides w, and 0 modulo the rest of w
--   PointMaps n s r point S B     S and B move the numbers as S and T⁻¹ move the points
--   Divides n s r point p   p divides the width of some point
--   PrimeMaps ..            q is the largest power of the prime p that divides the width of a point; and X a is T^(a e)
--                           at each point, e a share of p in its width
use Rattle.std.specs.Prelude.{◌≡◌, true, List, ℕ, suc, ◌*◌, ◌^◌, ◌≤◌, ◌<◌, pos, ◌-ℤ◌}
use Rattle.std.specs.Int.{◌∣◌}
use Rattle.numbering.specs.Table.{image_at, ◌then_table◌}
use Rattle.figures.specs.Cusps.{times}
use Rattle.cusp_record.specs.Record.{cusp_of, cusp_width}
use Rattle.congruence.specs.Congruence.{Multiple}
use Rattle.congruence.specs.Index.{is_prime}

abbrev pub point_width : (s r : List ℕ) → ℕ → ℕ
point_width s r j = cusp_width (s then_table r) (cusp_of (s then_table r) j)

pub record NumbersPoints (n : ℕ) (point : ℕ → ℕ) : Type 0 where
  pub low : (y : ℕ) → y < n → point y < n
  pub one : (y z : ℕ) → y < n → z < n → point y ≡ point z → y ≡ z
  pub name : ℕ → ℕ
  pub name_low : (j : ℕ) → j < n → name j < n
  pub name_is : (j : ℕ) → j < n → point (name j) ≡ j

pub record Moves (n : ℕ) (point M N : ℕ → ℕ) : Type 0 where
  pub low : (y : ℕ) → y < n → M y < n
  pub is : (y : ℕ) → y < n → point (M y) ≡ N (point y)

pub record Share (p w e : ℕ) : Type 0 where
  pub i : ℕ
  pub rest : ℕ
  pub is : p ^ i * rest ≡ w
  pub clear : p ∣ rest → ⊥
  pub one : Multiple (p ^ i) (pos e -ℤ pos 1)
  pub none : Multiple rest (pos e)

pub record PointMaps (n : ℕ) (s r : List ℕ) (point S B : ℕ → ℕ) : Type 0 where
  pub renames : NumbersPoints n point
  pub S_moves : Moves n point S (image_at s)
  pub B_low : (y : ℕ) → y < n → B y < n
  pub B_is : (y : ℕ) → y < n → image_at (s then_table r) (point (B y)) ≡ point y

pub record Divides (n : ℕ) (s r : List ℕ) (point : ℕ → ℕ) (d : ℕ) : Type 0 where
  pub number : ℕ
  pub low : number < n
  pub divides : d ∣ point_width s r (point number)

pub record PrimeMaps (n : ℕ) (s r : List ℕ) (point : ℕ → ℕ) (p q : ℕ) (X : ℕ → ℕ → ℕ) : Type 0 where
  pub prime : is_prime p ≡ true
  pub k : ℕ
  pub power : q ≡ p ^ suc k
  pub met : Divides n s r point q
  pub most : (i y : ℕ) → y < n → p ^ i ∣ point_width s r (point y) → i ≤ suc k
  pub share : ℕ → ℕ
  pub shares : (y : ℕ) → y < n → Share p (point_width s r (point y)) (share y)
  pub X_low : (a y : ℕ) → y < n → X a y < n
  pub X_is : (a y : ℕ) → y < n → point (X a y) ≡ times (s then_table r) (a * share y) (point y)
