-- RUNS. The alternating word of a matrix is made of runs (S Q)^k and (S P)^k, one for each quotient of the Euclidean
-- algorithm on the sums of its rows. Along a run one map is repeated, and positions are finite: so the walk goes round,
-- and where it ends and how many letters it writes come from the quotient and the remainder of k by the length of the
-- round. S Q is T⁻¹ up to sign: a round goes round a cusp, and its length is the cusp's width.
--
--   stepped f k x            f, k times, from x
--   counted f c k x          the sum of what c counts at the k points on that way, x among them and the end not
--   Round f c order sum a b  the points at the places from a to b - 1 are a round of f in this order, and the number at
--                            each place is the sum of what c counts at the places before it
--   round_onward a b y j          the place j steps after y, where j is less than a round
--   backward a b y j         the place j steps before y
--   between sum a b y j      what is counted on the way from y to the place j steps after it
--   place_after a b y k      the place k steps after y
--   place_before a b y k     the place k steps before y
--   count_after sum a b y k  what is counted in k steps from y: a round for each time round, and two sums
--   blocks x k               the word (S x)^k
--   taken_upper k f          the lower row of the form f taken k times from the upper one
--   taken_lower k f          the upper row taken k times from the lower one
--   run_length a b            how many times b can be taken from a such that something is left
--   block_to v t x p         where S and then the letter x lead from the position p
--   block_count v t x p      how many letters these two write
use Rattle.std.specs.Prelude.{◌≡◌, List, [], ◌∷◌, ℕ, zero, suc, ◌+◌, ◌-◌, ◌*◌, ◌/◌, ◌%◌, ◌≤◌, ◌<◌, leb, ltb, length, ℤ}
use Rattle.basics.specs.Choice.{pick}
use Rattle.matrix.specs.Words.{Letter, S}
use Rattle.matrix.specs.Euclid.{Form, form}
use Rattle.coset.specs.Positions.{step_s, written, goes}

-- ---- a map with a counter

module _ {X : Type 0} (f : X → X) where
  abbrev pub stepped : ℕ → X → X
  stepped zero x = x
  stepped (suc k) x = stepped k (f x)

module _ {X : Type 0} (f : X → X) (c : X → ℕ) where
  abbrev pub counted : ℕ → X → ℕ
  counted zero x = 0
  counted (suc k) x = c x + counted k (f x)

pub record Round {X : Type 0} (f : X → X) (c : X → ℕ) (order : ℕ → X) (sum : ℕ → ℕ) (a b : ℕ) : Type 0 where
  pub some : a < b
  pub next : (y : ℕ) → a ≤ y → suc y < b → f (order y) ≡ order (suc y)
  pub last : (y : ℕ) → suc y ≡ b → f (order y) ≡ order a
  pub sums : (y : ℕ) → a ≤ y → y < b → sum (suc y) ≡ sum y + c (order y)

abbrev pub round_onward : (a b y j : ℕ) → ℕ
round_onward a b y j = pick (ltb (y + j) b) (y + j) (y + j - (b - a))

abbrev pub backward : (a b y j : ℕ) → ℕ
backward a b y j = pick (leb (a + j) y) (y - j) (y + (b - a) - j)

abbrev pub between : (sum : ℕ → ℕ) (a b y j : ℕ) → ℕ
between sum a b y j =
    pick (ltb (y + j) b) (sum (y + j) - sum y) (sum b - sum y + (sum (y + j - (b - a)) - sum a))

abbrev pub place_after : (a b y k : ℕ) → ℕ
place_after a b y k = round_onward a b y (k % (b - a))

abbrev pub place_before : (a b y k : ℕ) → ℕ
place_before a b y k = backward a b y (k % (b - a))

abbrev pub count_after : (sum : ℕ → ℕ) (a b y k : ℕ) → ℕ
count_after sum a b y k = k / (b - a) * (sum b - sum a) + between sum a b y (k % (b - a))

-- ---- words by quotients

abbrev pub blocks : Letter → ℕ → List Letter
blocks x zero = []
blocks x (suc k) = S ∷ x ∷ blocks x k

abbrev pub taken_upper : ℕ → Form → Form
taken_upper k f = form (f.p - k * f.r) (f.q - k * f.t) f.r f.t

abbrev pub taken_lower : ℕ → Form → Form
taken_lower k f = form f.p f.q (f.r - k * f.p) (f.t - k * f.q)

unfoldable pub run_length : ℕ → ℕ → ℕ
run_length a b = (a - 1) / b

-- ---- positions

unfoldable pub block_to : ℕ → List ℤ → Letter → ℕ → ℕ
block_to v t x p = goes v t x (step_s v t p)

unfoldable pub block_count : ℕ → List ℤ → Letter → ℕ → ℕ
block_count v t x p = length (written v t S p) + length (written v t x (step_s v t p))
