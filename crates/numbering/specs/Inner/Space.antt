-- The work space: one lent slice of 32,768 numbers of 16 bits, which holds eight tables at fixed places.
--     place   code       here       holds
--      4096   S_TABLE    S_TABLE    the images of the coset numbers under S
--      8192   SIGMA      SIGMA      the images of the points under S; from `cusp_widths` on, which no longer needs
--             them, the widths
--     12288   RHO        RHO        the images of the points under R
--     16384   NUMBER     NUMBER     the number of each point, for those that have one
--     20480   ORDER      ORDER      the point of each number
--     24576   R_TABLE    R_TABLE    the images of the coset numbers under R
--     28672   T_TABLE    T_TABLE    the images of the coset numbers under T
-- What stands below 4096 is the caller's. A point is a place in the tables of images (docs/CONVENTIONS.md has the
-- word); upper crates say what their points are.
--     WORK                  the length of the work space; ROOM: the most entries that a table has room for (4,090 are
--                           needed)
--     put_to w off l j      w, with the first j entries of l at off
--     Apart a m b n         the tables of m entries at a and of n entries at b share no place
--     ChangedWithin a b w w'  w' is w but for the places from a up to b
-- The laws are in proofs/Space.antt.
use Rattle.std.specs.Prelude.{◌≡◌, ◌⊎◌, List, ℕ, ◌+◌, ◌≤◌, ◌<◌, length, get_or}
use Rattle.std.proofs.Math.Seq.{paste}
use Rattle.call.specs.Space.{work_length}

abbrev pub WORK : ℕ
WORK = work_length

abbrev pub S_TABLE : ℕ
S_TABLE = 4096

abbrev pub SIGMA : ℕ
SIGMA = 8192

abbrev pub WIDTHS : ℕ
WIDTHS = 8192

abbrev pub RHO : ℕ
RHO = 12288

abbrev pub NUMBER : ℕ
NUMBER = 16384

abbrev pub ORDER : ℕ
ORDER = 20480

abbrev pub R_TABLE : ℕ
R_TABLE = 24576

abbrev pub T_TABLE : ℕ
T_TABLE = 28672

abbrev pub ROOM : ℕ
ROOM = 4096

unfoldable pub put_to : List ℕ → (off : ℕ) → List ℕ → (j : ℕ) → List ℕ
put_to w off l j = paste w off l j

abbrev pub Apart : (a m b n : ℕ) → Type 0
Apart a m b n = (a + m ≤ b) ⊎ (b + n ≤ a)

pub record ChangedWithin (a b : ℕ) (w w' : List ℕ) : Type 0 where
  pub same : length w' ≡ length w
  pub below : (k : ℕ) → k < a → get_or w' k 0 ≡ get_or w k 0
  pub above : (k : ℕ) → b ≤ k → get_or w' k 0 ≡ get_or w k 0
