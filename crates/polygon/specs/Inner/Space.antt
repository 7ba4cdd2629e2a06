-- The tables of this crate in the lent work space of 32,768 numbers or more.
--
--   FLIP          the other side of each position, 4,090 of them at most
--   STACK         the vertices on the stack of the scan, and at HANDLE the handle of each
--   GENERATOR     the number of each side's generator
--   joined w p q      p and q noted as the two sides of one edge
--   CutFrame w w'     w' is w but for the other sides and the stack
--   Above w w'        w' is w but for what lies from the stack on
use Rattle.std.specs.Prelude.{◌≡◌, List, ℕ, ◌+◌, ◌≤◌, ◌<◌, length, get_or, set}
use Rattle.pairing.specs.Inner.Work.{PARTNER}

abbrev pub FLIP : ℕ
FLIP = 4096

abbrev pub STACK : ℕ
STACK = 28672

abbrev pub HANDLE : ℕ
HANDLE = 29696

abbrev pub GENERATOR : ℕ
GENERATOR = 31744

abbrev pub joined : List ℕ → ℕ → ℕ → List ℕ
joined w p q = set (set w (FLIP + p) q) (FLIP + q) p

pub record CutFrame (w w' : List ℕ) : Type 0 where
  pub same : length w' ≡ length w
  pub low : (k : ℕ) → k < FLIP → get_or w' k 0 ≡ get_or w k 0
  pub middle : (k : ℕ) → 8192 ≤ k → k < STACK → get_or w' k 0 ≡ get_or w k 0
  pub high : (k : ℕ) → PARTNER ≤ k → get_or w' k 0 ≡ get_or w k 0

pub record Above (w w' : List ℕ) : Type 0 where
  pub same : length w' ≡ length w
  pub below : (k : ℕ) → k < STACK → get_or w' k 0 ≡ get_or w k 0
