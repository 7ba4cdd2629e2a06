-- What the functions of the figures ask of the work space, and what they leave there.
--     HoldsTable off n w         the work space holds a table of n entries at off
--     Permuted n w               T_TABLE holds a permutation of n places
--     held_t n w                that table
--     CuspFrame k w w'           w' is w but for k entries at WIDTHS, and NUMBER and ORDER
--     CyclesListed t n i c k w   the cycles of the cusps of t below i have been listed, c points of k cusps, and their
--                                widths
--     NewCycle n x c w           x is a point, and no point of its cycle is listed
--     CycleDue n i c k w         Scan, at a point i
--     CycleTaken n i w w' c k    Scan, at i + 1
--     CuspWidths n w w' k        WIDTHS holds the widths of the k cusps of T_TABLE; ORDER lists all points cusp by
--                                cusp, each cusp from its smallest point in the order of T, and NUMBER has the place of
--                                each point in that list
--     FiguresOf n w w' f         f has the figures of the tables of S, R and T, and WIDTHS holds the widths
--     PositiveTable off n w      the work space holds a table of n entries at off, none of them 0
use Rattle.std.specs.Prelude.{◌≡◌, List, map, ℕ, ◌+◌, ◌≤◌, ◌<◌, length, get_or}
use Rattle.numbering.specs.Find.{◌∈◌, ◌∉◌}
use Rattle.numbering.specs.Table.{Permutes}
use Rattle.figures.specs.Cusps.{width, cycle, cusps_to, cusps, widths, cycles}
use Rattle.figures.specs.LevelOf.{Positive}
use Rattle.figures.specs.FiguresOf.{figures_in}
use Rattle.figures.specs.declared.FigureRecord.{FigureRecord}
use Rattle.numbering.specs.Inner.Space.{WORK, ROOM, S_TABLE, WIDTHS, NUMBER, R_TABLE, T_TABLE}
use Rattle.call.specs.Space.{entries}
use Rattle.numbering.specs.Inner.Marks.{listed, Sparse}

pub record HoldsTable (off n : ℕ) (w : List ℕ) : Type 0 where
  pub fits : off + n ≤ length w

abbrev pub held_t : ℕ → List ℕ → List ℕ
held_t n w = entries T_TABLE n w

pub record Permuted (n : ℕ) (w : List ℕ) : Type 0 where
  pub long : WORK ≤ length w
  pub room : n ≤ ROOM
  pub permutes : Permutes (held_t n w)

pub record CuspFrame (k : ℕ) (w w' : List ℕ) : Type 0 where
  pub same : length w' ≡ length w
  pub below : (i : ℕ) → i < WIDTHS → get_or w' i 0 ≡ get_or w i 0
  pub between : (i : ℕ) → WIDTHS + k ≤ i → i < NUMBER → get_or w' i 0 ≡ get_or w i 0
  pub above : (i : ℕ) → R_TABLE ≤ i → get_or w' i 0 ≡ get_or w i 0

pub record CyclesListed (t : List ℕ) (n i c k : ℕ) (w : List ℕ) : Type 0 where
  pub sparse : Sparse n c w
  pub T_is : held_t n w ≡ t
  pub list : listed c w ≡ cycles t (cusps_to t i)
  pub count : k ≡ length (cusps_to t i)
  pub table : entries WIDTHS k w ≡ map (width t) (cusps_to t i)

pub record NewCycle (n x c : ℕ) (w : List ℕ) : Type 0 where
  pub sparse : Sparse n c w
  pub permutes : Permutes (held_t n w)
  pub low : x < n
  pub new : (y : ℕ) → y ∈ cycle (held_t n w) x → y ∉ listed c w

pub record CycleDue (n i c k : ℕ) (w : List ℕ) : Type 0 where
  pub scan : CyclesListed (held_t n w) n i c k w
  pub permutes : Permutes (held_t n w)
  pub low : i < n

pub record CycleTaken (n i : ℕ) (w w' : List ℕ) (c k : ℕ) : Type 0 where
  pub scan : CyclesListed (held_t n w) n (i + 1) c k w'
  pub frame : CuspFrame k w w'

pub record CuspWidths (n : ℕ) (w w' : List ℕ) (k : ℕ) : Type 0 where
  pub count : k ≡ length (widths (held_t n w))
  pub few : k ≤ n
  pub table : entries WIDTHS k w' ≡ widths (held_t n w)
  pub marks : Sparse n n w'
  pub list : listed n w' ≡ cycles (held_t n w) (cusps (held_t n w))
  pub frame : CuspFrame k w w'

pub record FiguresOf (n : ℕ) (w w' : List ℕ) (f : FigureRecord) : Type 0 where
  pub figures : f ≡ figures_in n (entries S_TABLE n w) (entries R_TABLE n w) (held_t n w)
  pub cusps_are : CuspWidths n w w' f.cusps

pub record PositiveTable (off n : ℕ) (w : List ℕ) : Type 0 where
  pub fits : off + n ≤ length w
  pub positive : Positive (entries off n w)
