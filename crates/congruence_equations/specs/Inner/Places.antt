-- The maps of the places (same_coset/specs/Inner/Places.antt), from the work space; and the equations at one place.
--
--     place   code     here     holds
--      8192   SHARES   SHARES   for each place a share of the prime in the width of its cusp
--
--   turn_at w y          S
--   go_at n w a y        X a: T^(a e), e the share at y
--   back_at n w y        T⁻¹: one step less than the width
--   Lands n to r         r is the place `to`, below n
--   SaysOf P r           r says whether P
--   Arguments q g h      q is below 4,096; g and h are from 1 to q
--   BaseAt, UnitAt, ProductAt     the equations at the place y
use Rattle.std.specs.Prelude.{◌≡◌, Bool, true, false, List, ℕ, ◌+◌, ◌-◌, ◌*◌, ◌%◌, ◌≤◌, ◌<◌, get_or}
use Rattle.figures.specs.Inner.Scan.{held_t}
use Rattle.same_coset.specs.Inner.Places.{TURN, WIDTH, run_place}
use Rattle.congruence_decision.specs.Equations.{weyl, diagonal, beside}

abbrev pub SHARES : ℕ
SHARES = 8192

unfoldable pub turn_at : List ℕ → ℕ → ℕ
turn_at w y = get_or w (TURN + y) 0

unfoldable pub go_at : ℕ → List ℕ → ℕ → ℕ → ℕ
go_at n w a y = run_place (held_t n w) true (a * get_or w (SHARES + y) 0) y

unfoldable pub back_at : ℕ → List ℕ → ℕ → ℕ
back_at n w y = run_place (held_t n w) true (get_or w (WIDTH + y) 0 - 1) y

abbrev pub low_at : ℕ → List ℕ → ℕ → ℕ → ℕ
low_at n w a y = turn_at w (go_at n w a (turn_at w y))

abbrev pub weyl_at : ℕ → List ℕ → ℕ → ℕ
weyl_at n w y = weyl (turn_at w) (go_at n w) y

abbrev pub diagonal_at : ℕ → List ℕ → (q g h : ℕ) → ℕ → ℕ
diagonal_at n w q g h y = diagonal (turn_at w) (go_at n w) q g h y

abbrev pub beside_at : ℕ → List ℕ → ℕ → ℕ
beside_at n w y = beside (turn_at w) (go_at n w) (back_at n w) y

pub record Arguments (q g h : ℕ) : Type 0 where
  pub q_low : q < 4096
  pub g_some : 0 < g
  pub g_low : g ≤ q
  pub h_some : 0 < h
  pub h_low : h ≤ q

pub record Lands (n to r : ℕ) : Type 0 where
  pub is : r ≡ to
  pub low : r < n

pub record SaysOf (P : Type 0) (r : Bool) : Type 0 where
  pub yes : r ≡ true → P
  pub no : r ≡ false → P → ⊥

abbrev pub BraidAt : (n : ℕ) → List ℕ → ℕ → Type 0
BraidAt n w y = weyl_at n w (turn_at w y) ≡ turn_at w (weyl_at n w y)

abbrev pub FourthAt : (n : ℕ) → List ℕ → ℕ → Type 0
FourthAt n w y = weyl_at n w (weyl_at n w (weyl_at n w (weyl_at n w y))) ≡ y

abbrev pub CrossesAt : (n : ℕ) → List ℕ → ℕ → Type 0
CrossesAt n w y = go_at n w 1 (beside_at n w y) ≡ beside_at n w (go_at n w 1 y)

abbrev pub TurnedAt : (n : ℕ) → List ℕ → (q g h y : ℕ) → Type 0
TurnedAt n w q g h y = go_at n w 1 (diagonal_at n w q g h y) ≡ diagonal_at n w q g h (go_at n w (g * g % q) y)

abbrev pub FlippedAt : (n : ℕ) → List ℕ → (q g h y : ℕ) → Type 0
FlippedAt n w q g h y = diagonal_at n w q g h (weyl_at n w (diagonal_at n w q g h y)) ≡ weyl_at n w y

abbrev pub BaseAt : (n : ℕ) → List ℕ → ℕ → Type 0
BaseAt n w y = BraidAt n w y × FourthAt n w y × CrossesAt n w y

abbrev pub UnitAt : (n : ℕ) → List ℕ → (q g h y : ℕ) → Type 0
UnitAt n w q g h y = TurnedAt n w q g h y × FlippedAt n w q g h y

abbrev pub ProductAt : (n : ℕ) → List ℕ → (q g h g' h' y : ℕ) → Type 0
ProductAt n w q g h g' h' y = diagonal_at n w q g' h' (diagonal_at n w q g h y)
    ≡ diagonal_at n w q (g * g' % q) (h * h' % q) y
