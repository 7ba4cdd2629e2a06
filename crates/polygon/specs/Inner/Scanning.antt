-- The cut in the work space: what its functions ask for and leave.
--
--   cells_in w n        the stack of n cells, read from its top
--   scan_in v w n m    the scan as it stands in w, with n cells on the stack and m triangles cut
--   ready_of t l y     whether the top of the stack l is the mediant of the vertex below it and y
--   Cells v w n        the stack holds vertices and positions
--   ScanRoom           what one vertex of the scan asks for: side i comes in, where n cells and m triangles are there
--   Settled            what it leaves
--   Cleared            the table of other sides is zero
--   Scanned            what the scan leaves: n cells, and r under the chord that ended at vertex z when it had been
--                      pushed
--   CutLeft            what the cut leaves: the array of other sides, and as its result r the position under the chord
--                      to 0/1
use Rattle.std.specs.Prelude.{◌≡◌, Bool, false, List, [], ◌∷◌, ℕ, zero, suc, ◌+◌, ◌-◌, ◌≤◌, ◌<◌, eqb, length, get_or, ℤ}
use Rattle.symbol.specs.Symbol.{IsSymbol}
use Rattle.polygon.specs.Cut.{outer, places, den, Cell, cell, below, handle, Scan, scan, pushed, scanned, flip_of}
use Rattle.polygon.specs.Cut.{under_zero}
use Rattle.polygon.specs.Inner.Space.{FLIP, STACK, HANDLE, CutFrame}
use Rattle.call.specs.Space.{entries}

unfoldable pub cells_in : List ℕ → ℕ → List Cell
cells_in w zero = []
cells_in w (suc n) = cell (get_or w (STACK + n) 0) (get_or w (HANDLE + n) 0) ∷ cells_in w n

abbrev pub scan_in : ℕ → List ℕ → ℕ → ℕ → Scan
scan_in v w n m = scan (entries FLIP (places v) w) m (cells_in w n)

unfoldable pub ready_of : List ℤ → List Cell → ℕ → Bool
ready_of t [] y = false
ready_of t (c ∷ l) y = eqb (den t c.vertex) (den t (below l) + den t y)

pub record Cells (v : ℕ) (w : List ℕ) (n : ℕ) : Type 0 where
  pub vertices : (j : ℕ) → j < n → get_or w (STACK + j) 0 ≤ v
  pub handles : (j : ℕ) → j < n → get_or w (HANDLE + j) 0 < places v

pub record ScanRoom (t : List ℤ) (v : ℕ) (w : List ℕ) (i n m : ℕ) : Type 0 where
  pub symbol : IsSymbol v t
  pub long : 32768 ≤ length w
  pub cells : Cells v w n
  pub next : i < v
  pub count : n + m ≡ i

pub record Settled (t : List ℤ) (v : ℕ) (w : List ℕ) (i n m : ℕ) (w' : List ℕ) (n' m' : ℕ) : Type 0 where
  pub frame : CutFrame w w'
  pub cells : Cells v w' n'
  pub count : n' + m' ≡ suc i
  pub is : scan_in v w' n' m' ≡ pushed t (scan_in v w n m) (outer v i) (suc i)

pub record Cleared (v : ℕ) (w w' : List ℕ) : Type 0 where
  pub frame : CutFrame w w'
  pub zeros : (k : ℕ) → k < places v → get_or w' (FLIP + k) 0 ≡ 0

pub record Scanned (t : List ℤ) (v z : ℕ) (w w' : List ℕ) (n r : ℕ) : Type 0 where
  pub frame : CutFrame w w'
  pub cells : Cells v w' n
  pub count : n ≤ v
  pub is : scan_in v w' n (v - n) ≡ scanned v t v
  pub under : z < v → r ≡ handle (scanned v t (suc z)).stack

pub record CutLeft (t : List ℤ) (v : ℕ) (w w' : List ℕ) (r : ℕ) : Type 0 where
  pub frame : CutFrame w w'
  pub flips : entries FLIP (places v) w' ≡ flip_of v t
  pub under : r ≡ under_zero v t
