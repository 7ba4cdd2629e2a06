-- The walk in the work space: where its tables lie, what they hold, and what each of its functions leaves.
--
--   place   table   holds
--    4096   LABEL   at the place of a label's smaller point the number of the label, once it has one
--    8192   HELD    not 0 exactly at the points of the sides that are there
--   12288   DONE    the sides done, from the left: five numbers for each
--   20480   TODO    the sides to do, the leftmost on top: five numbers for each
--
--   cell_place b i       where the five numbers of side i of the table at b begin: the right end's numerator plus 10⁹,
--                        its denominator, each in two numbers, and the point
--   two_cells w at       the number in two cells
--   end_at w at, point_at  the right end and the point of the side whose numbers begin there
--   done_in w d          the d sides done; last_in w d: the right end of the last one, -1/0 where there is none
--   todo_in x w k        the k sides to do, x being the left end of the first
--   cell_set w at e d m  w with the five numbers of a side there
--   closed_in w m         whether a side with the point m is closed, by the table HELD
--   top_fits w d k       whether the first side to do can be split within the limit
--   split_by w k e c     w with the first side to do split at the vertex whose numbers are e and c; split_in w d k: at
--                        its mediant
--   SideTaken            what one turn of the walk does: a closed side moves on, an open one is split, or can't be
--   start_in w            w with the sides of the start to do
--   Large s r            the group is none of the small ones; Ground s r w: what the walk asks for
--   Done s r w d         d sides are done: what the writing of the table asks for
--   grown_by order s r   what the rule by points comes to under an order
--   WalkLeaves order s r w stop d  what a walk leaves: the side d that can't be split, or, with Whole, the d sides that
--                                  the rule ends with
use Rattle.std.specs.Prelude.{◌≡◌, Bool, true, false, not, ◌&&◌, ◌||◌, List, [], ◌∷◌, ◌++◌, ℕ, zero, suc, ◌+◌, ◌-◌, ◌*◌, ◌/◌, ◌%◌, ◌≤◌, ◌<◌, eqb, leb, length, get_or, set, ℤ, pos, ◌-ℤ◌}
use Rattle.basics.specs.Choice.{pick}
use Rattle.permutations.specs.Pair.{image, Permuting, Pair}
use Rattle.import_rule.specs.Fixed.{by_q}
use Rattle.import_rule.specs.Order.{Order}
use Rattle.import_rule.specs.Side.{Vertex, vertex, minus_infinity, limit}
use Rattle.import_rule.specs.Inner.Placed.{Placed, placed_side, Grew, finished, refused, grow, start_placed}

abbrev pub LABEL : ℕ
LABEL = 4096

abbrev pub HELD : ℕ
HELD = 8192

abbrev pub DONE : ℕ
DONE = 12288

abbrev pub TODO : ℕ
TODO = 20480

-- ---- sides

abbrev pub cell_place : ℕ → ℕ → ℕ
cell_place b i = b + 5 * i

unfoldable pub two_cells : List ℕ → ℕ → ℕ
two_cells w at = get_or w at 0 * 65536 + get_or w (at + 1) 0

abbrev pub end_at : List ℕ → ℕ → Vertex
end_at w at = vertex (pos (two_cells w at) -ℤ pos limit) (two_cells w (at + 2))

abbrev pub point_at : List ℕ → ℕ → ℕ
point_at w at = get_or w (at + 4) 0

abbrev pub last_in : List ℕ → ℕ → Vertex
last_in w zero = minus_infinity
last_in w (suc d) = end_at w (cell_place DONE d)

abbrev pub done_in : List ℕ → ℕ → List Placed
done_in w zero = []
done_in w (suc d) = done_in w d
    ++ (placed_side (last_in w d) (end_at w (cell_place DONE d)) (point_at w (cell_place DONE d)) ∷ [])

abbrev pub todo_in : Vertex → List ℕ → ℕ → List Placed
todo_in x w zero = []
todo_in x w (suc k) = placed_side x (end_at w (cell_place TODO k)) (point_at w (cell_place TODO k)) ∷ todo_in
    (end_at w (cell_place TODO k)) w k

unfoldable pub cell_set : List ℕ → (at e d m : ℕ) → List ℕ
cell_set w at e d m =
    set (set (set (set (set w at (e / 65536)) (at + 1) (e % 65536)) (at + 2) (d / 65536)) (at + 2 + 1) (d % 65536))
    (at + 4) m

-- ---- one turn

-- numerator plus 10⁹, and denominator, of the right end of the last side done
abbrev pub left_end_num : List ℕ → ℕ → ℕ
left_end_num w d = pick (eqb d 0) 999999999 (two_cells w (cell_place DONE (d - 1)))

abbrev pub left_end_den : List ℕ → ℕ → ℕ
left_end_den w d = pick (eqb d 0) 0 (two_cells w (cell_place DONE (d - 1) + 2))

-- the sums for the mediant of the first side to do
abbrev pub sum_num : List ℕ → (d k : ℕ) → ℕ
sum_num w d k = left_end_num w d + two_cells w (cell_place TODO (k - 1))

abbrev pub sum_den : List ℕ → (d k : ℕ) → ℕ
sum_den w d k = left_end_den w d + two_cells w (cell_place TODO (k - 1) + 2)

abbrev pub top_fits : List ℕ → (d k : ℕ) → Bool
top_fits w d k = leb 1000000000 (sum_num w d k) && leb (sum_num w d k) 3000000000 && leb (sum_den w d k) 1000000000

abbrev pub top_point : List ℕ → ℕ → ℕ
top_point w k = point_at w (cell_place TODO (k - 1))

abbrev pub moved_in : List ℕ → (d k : ℕ) → List ℕ
moved_in w d k = cell_set w (cell_place DONE d) (two_cells w (cell_place TODO (k - 1)))
    (two_cells w (cell_place TODO (k - 1) + 2)) (top_point w k)

-- the point m is no side's any more, a and b are
abbrev pub held_set : List ℕ → (x m a b : ℕ) → List ℕ
held_set w x m a b = set (set (set w (HELD + m) x) (HELD + a) 1) (HELD + b) 1

module _ (σ κ : ℕ → ℕ) where
  abbrev pub closed_in : List ℕ → ℕ → Bool
  closed_in w m = eqb (κ m) m || not (eqb (get_or w (HELD + σ m) 0) 0)

  abbrev pub split_by : List ℕ → (k e c : ℕ) → List ℕ
  split_by w k e c =
      let m = top_point w k in
      let a = σ (κ m) in
      let b = σ (κ (κ m)) in
      cell_set (set (held_set w 0 m a b) (cell_place TODO (k - 1) + 4) b) (cell_place TODO k) e c a

  abbrev pub split_in : List ℕ → (d k : ℕ) → List ℕ
  split_in w d k = split_by w k (sum_num w d k - 1000000000) (sum_den w d k)

  pub data SideTaken (w : List ℕ) (d k : ℕ) (w' : List ℕ) (stop : Bool) (d' k' : ℕ) : Type 0 where
    moved : closed_in w (top_point w k) ≡ true → w' ≡ moved_in w d k → stop ≡ false → d' ≡ d + 1 → k' ≡ k - 1
        → SideTaken w d k w' stop d' k'
    over : closed_in w (top_point w k) ≡ false → top_fits w d k ≡ false → w' ≡ w → stop ≡ true → d' ≡ d
        → SideTaken w d k w' stop d' k'
    parted : closed_in w (top_point w k) ≡ false → top_fits w d k ≡ true → w' ≡ split_in w d k → stop ≡ false → d' ≡ d → k'
        ≡ k + 1 → SideTaken w d k w' stop d' k'

-- what a turn asks for
pub record Top (s r w : List ℕ) (d k : ℕ) : Type 0 where
  pub pair : Pair s r
  pub long : 32768 ≤ length w
  pub done : d ≤ 1024
  pub some : 1 ≤ k
  pub todo : k ≤ 1024
  pub point : top_point w k < length s

-- ---- the whole walk

-- three sides to do, with finite vertices e2/1 and e1/1 (numerators plus 10⁹) and the points p2, p1, p0 from the left
abbrev pub start_by : List ℕ → (e2 e1 p2 p1 p0 : ℕ) → List ℕ
start_by w e2 e1 p2 p1 p0 = cell_set (cell_set (cell_set (held_set w 1 p2 p1 p0) TODO 1000000001 0 p0) (TODO + 5) e1 1 p1)
    (TODO + 10) e2 1 p2

abbrev pub start_in : (σ κ : ℕ → ℕ) → List ℕ → List ℕ
start_in σ κ w =
    pick (eqb (κ 0) 0)
    (start_by w 999999999 1000000000 (σ (κ (σ 0))) (σ (κ (κ (σ 0)))) 0)
    (start_by w 1000000000 1000000001 (σ 0) (σ (κ 0)) (σ (κ (κ 0))))

-- the group is none of the small ones: Q doesn't fix both point 0 and its S image
abbrev pub Large : (s r : List ℕ) → Type 0
Large s r = (eqb (by_q (image s) (image r) 0) 0 && eqb (by_q (image s) (image r) (image s 0)) (image s 0)) ≡ false

-- the walk may begin: the work space is clear, and the group is none of the small ones
pub record Ground (s r w : List ℕ) : Type 0 where
  pub pair : Pair s r
  pub long : 32768 ≤ length w
  pub clear : (j : ℕ) → get_or w j 0 ≡ 0
  pub large : Large s r

-- d sides are done, whatever order they were split in
pub record Done (s r w : List ℕ) (d : ℕ) : Type 0 where
  pub pair : Pair s r
  pub long : 32768 ≤ length w
  pub some : 3 ≤ d
  pub most : d ≤ 1024
  pub points : (i : ℕ) → i < d → point_at w (cell_place DONE i) < length s
  pub labels : (x : ℕ) → x < 4096 → get_or w (LABEL + x) 0 ≡ 0

-- what the rule by points comes to, from its start
abbrev pub grown_by : Order → (s r : List ℕ) → Grew
grown_by order s r = grow (image s) (by_q (image s) (image r)) order (length s)
    (start_placed (image s) (by_q (image s) (image r)))

-- the sides done are what the rule ends with
pub record Whole (order : Order) (s r w : List ℕ) (d : ℕ) : Type 0 where
  pub is : grown_by order s r ≡ finished (done_in w d)
  pub done : Done s r w d

pub data WalkLeaves (order : Order) (s r w : List ℕ) (stop : Bool) (d : ℕ) : Type 0 where
  halted : stop ≡ true → grown_by order s r ≡ refused d → WalkLeaves order s r w stop d
  whole : stop ≡ false → Whole order s r w d → WalkLeaves order s r w stop d
