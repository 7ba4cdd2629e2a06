-- The wide rule in the work space: where its tables lie, what they hold, and what each of its functions leaves.
--
--   place   table   holds
--    4096   LABEL   nothing: it is for the writing of the pairings
--    8192   HELD    at the points of the sides that are there one more than the side's cell, and else 0
--   12288   DONE    at the end the sides, from the left: five numbers for each
--           (Inner/Work.antt)
--   20480   TODO    the cells of the sides that are there, in the order in which they were first used: five numbers for
--           each
--   26624   LINK    for each cell one more than the cell of the side to the left, and 0 for the leftmost side's
--   28672   QUEUE   the points of the sides that came, in this order: 2 k - 3 where there are k sides
--
--   link_at, held_at, queue_at    what stands in a table
--   Linked w l p                the cells p are linked from the link l on, to the left
--   Chain w l, Rowed w k        there are such cells, at most 1024; there are k of them from cell 0 on
--   along_from w x p            the sides of these cells, from left to right, x being the left end of the first
--   low_num, low_den w l        numerator plus 10⁹, and denominator, of the right end of the cell that l links, -1/0
--                               where it links none
--   cell_sum_num, cell_sum_den w c  the sums for the mediant of the side in cell c; fits_cell w c: whether it keeps to the
--                               limit
--   held_by, linked, queued     w with new entries of HELD, LINK and QUEUE
--   split_cell w c k e d        w with the side in cell c split at the vertex whose numbers are e and d: its left part
--                               has the new cell k, its right part the cell c
--   Counted w l i               i cells are linked from l on
--   Opened                      what a turn does with an open side: it is split, or can't be, and then its number is
--                               told
--   Turned                      what one turn does: a closed side is dropped from the queue
--   AtCell, Turn                what these ask for
--   Three w                     what the start asks for
--   begun w                     w, in which the cells 2, 1, 0 hold the start sides, with its entries of HELD, LINK and
--                               QUEUE
--   Laid w k w'                 the k sides are laid out in DONE
use Rattle.std.specs.Prelude.{◌≡◌, Bool, true, false, ◌&&◌, List, [], ◌∷◌, ◌++◌, ℕ, suc, ◌+◌, ◌-◌, ◌*◌, ◌≤◌, ◌<◌, eqb, leb, length, get_or, set}
use Rattle.basics.specs.Choice.{pick}
use Rattle.permutations.specs.Pair.{image, Pair}
use Rattle.import_rule.specs.Fixed.{by_q}
use Rattle.import_rule.specs.Side.{Vertex, minus_infinity}
use Rattle.import_rule.specs.Inner.Placed.{Placed, placed_side}
use Rattle.import_sides.specs.Inner.Work.{HELD, DONE, TODO, cell_place, two_cells, end_at, point_at, cell_set, done_in}
use Rattle.import_sides.specs.Inner.Work.{closed_in}

abbrev pub LINK : ℕ
LINK = 26624

abbrev pub QUEUE : ℕ
QUEUE = 28672

abbrev pub link_at : List ℕ → ℕ → ℕ
link_at w c = get_or w (LINK + c) 0

abbrev pub held_at : List ℕ → ℕ → ℕ
held_at w x = get_or w (HELD + x) 0

abbrev pub queue_at : List ℕ → ℕ → ℕ
queue_at w h = get_or w (QUEUE + h) 0

-- ---- cells that are linked

abbrev pub Linked : List ℕ → ℕ → List ℕ → Type 0
Linked w l [] = l ≡ 0
Linked w l (c ∷ p) = (l ≡ suc c) × (c < 1024) × Linked w (link_at w c) p

pub record Chain (w : List ℕ) (l : ℕ) : Type 0 where
  pub cells : List ℕ
  pub linked : Linked w l cells
  pub few : length cells ≤ 1024

pub record Rowed (w : List ℕ) (k : ℕ) : Type 0 where
  pub cells : List ℕ
  pub linked : Linked w 1 cells
  pub long : length cells ≡ k

abbrev pub end_or : List ℕ → Vertex → List ℕ → Vertex
end_or w x [] = x
end_or w x (c ∷ p) = end_at w (cell_place TODO c)

abbrev pub along_from : List ℕ → Vertex → List ℕ → List Placed
along_from w x [] = []
along_from w x (c ∷ p) =
    along_from w x p ++ (placed_side (end_or w x p) (end_at w (cell_place TODO c)) (point_at w (cell_place TODO c)) ∷ [])

-- ---- a split

abbrev pub low_num : List ℕ → ℕ → ℕ
low_num w l = pick (eqb l 0) 999999999 (two_cells w (cell_place TODO (l - 1)))

abbrev pub low_den : List ℕ → ℕ → ℕ
low_den w l = pick (eqb l 0) 0 (two_cells w (cell_place TODO (l - 1) + 2))

abbrev pub cell_sum_num : List ℕ → ℕ → ℕ
cell_sum_num w c = low_num w (link_at w c) + two_cells w (cell_place TODO c)

abbrev pub cell_sum_den : List ℕ → ℕ → ℕ
cell_sum_den w c = low_den w (link_at w c) + two_cells w (cell_place TODO c + 2)

abbrev pub fits_cell : List ℕ → ℕ → Bool
fits_cell w c = leb 1000000000 (cell_sum_num w c) && leb (cell_sum_num w c) 3000000000 && leb (cell_sum_den w c) 1000000000

abbrev pub held_by : List ℕ → (m a b x y : ℕ) → List ℕ
held_by w m a b x y = set (set (set w (HELD + m) 0) (HELD + a) x) (HELD + b) y

abbrev pub linked : List ℕ → (c k l : ℕ) → List ℕ
linked w c k l = set (set w (LINK + k) l) (LINK + c) (k + 1)

abbrev pub queued : List ℕ → (t a b : ℕ) → List ℕ
queued w t a b = set (set w (QUEUE + t) a) (QUEUE + t + 1) b

-- how many are linked
pub record Counted (w : List ℕ) (l i : ℕ) : Type 0 where
  pub is : (p : List ℕ) → Linked w l p → length p ≡ i

module _ (σ κ : ℕ → ℕ) where
  abbrev pub split_cell : List ℕ → (c k e d : ℕ) → List ℕ
  split_cell w c k e d =
      let m = point_at w (cell_place TODO c) in
      let a = σ (κ m) in
      let b = σ (κ (κ m)) in
      queued (linked (cell_set (set (held_by w m a b (k + 1) (c + 1)) (cell_place TODO c + 4) b) (cell_place TODO k) e d a)
      c k (link_at w c)) (2 * k - 3) a b

  pub data Opened (w : List ℕ) (c k : ℕ) (w' : List ℕ) (stop : Bool) (k' : ℕ) : Type 0 where
    over : fits_cell w c ≡ false → Counted w (link_at w c) k' → w' ≡ w → stop ≡ true → Opened w c k w' stop k'
    parted : fits_cell w c ≡ true → w' ≡ split_cell w c k (cell_sum_num w c - 1000000000) (cell_sum_den w c) → stop ≡ false
        → k' ≡ k + 1 → Opened w c k w' stop k'

  pub data Turned (w : List ℕ) (h k : ℕ) (w' : List ℕ) (stop : Bool) (k' : ℕ) : Type 0 where
    dropped : closed_in σ κ w (queue_at w h) ≡ true → w' ≡ w → stop ≡ false → k' ≡ k → Turned w h k w' stop k'
    opened : closed_in σ κ w (queue_at w h) ≡ false → Opened w (held_at w (queue_at w h) - 1) k w' stop k'
        → Turned w h k w' stop k'

-- what a turn asks for: the side in cell c, where there are k
pub record AtCell (s r w : List ℕ) (c k : ℕ) : Type 0 where
  pub pair : Pair s r
  pub long : 32768 ≤ length w
  pub low : c < 1024
  pub some : 3 ≤ k
  pub room : k < 1024
  pub point : point_at w (cell_place TODO c) < length s
  pub chain : Chain w (link_at w c)

pub record Turn (s r w : List ℕ) (h k : ℕ) : Type 0 where
  pub pair : Pair s r
  pub long : 32768 ≤ length w
  pub place : h < 2048
  pub point : queue_at w h < length s
  pub held : closed_in (image s) (by_q (image s) (image r)) w (queue_at w h) ≡ false → (0 < held_at w (queue_at w h))
      × AtCell s r w (held_at w (queue_at w h) - 1) k

-- ---- the start and the end

-- the cells 2, 1 and 0 have points of the tables
pub record Three (w : List ℕ) : Type 0 where
  pub long : 32768 ≤ length w
  pub low2 : point_at w (cell_place TODO 2) < 4096
  pub low1 : point_at w (cell_place TODO 1) < 4096
  pub low0 : point_at w (cell_place TODO 0) < 4096

abbrev pub begun : List ℕ → List ℕ
begun w =
    let p2 = point_at w (cell_place TODO 2) in
    let p1 = point_at w (cell_place TODO 1) in
    let p0 = point_at w (cell_place TODO 0) in
    let w1 = set (set (set w (HELD + p2) 3) (HELD + p1) 2) (HELD + p0) 1 in
    let w2 = set (set (set w1 (LINK + 0) 2) (LINK + 1) 3) (LINK + 2) 0 in
    set (set (set w2 (QUEUE + 0) p2) (QUEUE + 1) p1) (QUEUE + 2) p0

pub record Laid (w : List ℕ) (k : ℕ) (w' : List ℕ) : Type 0 where
  pub long : length w' ≡ length w
  pub below : (j : ℕ) → j < DONE → get_or w' j 0 ≡ get_or w j 0
  pub is : (p : List ℕ) → Linked w 1 p → length p ≡ k → done_in w' k ≡ along_from w minus_infinity p
