-- THE RULE of docs/CONVENTIONS.md, 6, to the letter, under an order in which open sides are split (specs/Order.antt). S
-- is σ and Q is κ on the points; the group is that of the matrices that fix point 0.
--
--   Mark                 what a side is paired as so far: `unpaired`, `even`, `odd` or `free` with a label
--   Row, row s m         a side with its mark
--   even_side s, odd_side s  whether the group has M S M⁻¹, or M Q M⁻¹, where M is the side's frame
--   mates s q            whether it has N S M⁻¹, where M and N are the frames of s and q
--   label s q            the label of a pair until the symbol is finished: the smaller of the points of its two sides
--   seek s rows          the nearest open side of the rows that pairs with s, and the rows with their new mark
--   visit_side r rows    an open side is visited, with the rows to its right: even, odd, then the open sides to the
--                        right, nearest first
--   visit_all rows       all sides are visited, from the left
--   opens rows           which sides are open
--   split_at i rows      side i is split: its two parts, both open, stand in its place
--   fits_at i rows       whether the vertex at which side i is split keeps to the limit
--   came_after k i came  as which numbers the sides came, once side i is split: its two parts come as number k and
--                        number k + 1
--   go_on                no side is open and the rows are finished; or the side chosen is split and the rule begins
--                        again; or refusal 16, with the number that the side has before the split
--   rounds order n k came rows    visit, split and begin again, n splits at the most; k sides came so far, and those
--                                 there came as the numbers came
--   sides_from x l       the open sides from x through the vertices l to 1/0
--   start_rows           the start: 0/1, 1/1 if Q doesn't fix 0, else -1/1, 0/1
--   start_came           its sides came as 0, 1 and 2, from the left
use Rattle.std.specs.Prelude.{Bool, true, false, ◌&&◌, List, [], ◌∷◌, ℕ, zero, suc, ltb, length, pos, negsuc}
use Rattle.matrix.specs.Matrix.{mat_s, mat_q}
use Rattle.basics.specs.Choice.{pick}
use Rattle.matrix.specs.Action.{at}
use Rattle.symbol.specs.Table.{carried}
use Rattle.import_rule.specs.Fixed.{fixes}
use Rattle.import_rule.specs.Order.{Order, Chosen, none, this, chosen_by}
use Rattle.import_rule.specs.Side.{Vertex, vertex, minus_infinity, infinity, Interval, interval, interval_frame}
use Rattle.import_rule.specs.Side.{mediant, lower, upper, fits}

pub data Mark : Type 0 where
  unpaired even odd : Mark
  free : ℕ → Mark

pub record Row : Type 0 where
  pub side : Interval
  pub mark : Mark

abbrev pub row : Interval → Mark → Row
row s m = record { side = s; mark = m }

abbrev pub is_open : Mark → Bool
is_open unpaired = true
is_open even = false
is_open odd = false
is_open (free x) = false

-- what seeking finds: nobody, or the label of the pair and the rows with the partner marked
pub data Sought : Type 0 where
  nobody : Sought
  found : ℕ → List Row → Sought

-- the rows after one more that isn't the one sought
abbrev pub behind : Row → Sought → Sought
behind q nobody = nobody
behind q (found x rows) = found x (q ∷ rows)

-- a side that was visited, and the rows to its right
pub record Visited : Type 0 where
  pub row : Row
  pub rest : List Row

abbrev pub visited : Row → List Row → Visited
visited r rows = record { row = r; rest = rows }

-- the rule ends with all sides paired, or with refusal 16
pub data Grown : Type 0 where
  finished : List Row → Grown
  refused : ℕ → Grown

abbrev pub opens : List Row → List Bool
opens [] = []
opens (r ∷ rows) = is_open r.mark ∷ opens rows

abbrev pub split_at : ℕ → List Row → List Row
split_at i [] = []
split_at zero (r ∷ rows) = row (lower r.side) unpaired ∷ row (upper r.side) unpaired ∷ rows
split_at (suc i) (r ∷ rows) = r ∷ split_at i rows

abbrev pub fits_at : ℕ → List Row → Bool
fits_at i [] = true
fits_at zero (r ∷ rows) = fits (mediant r.side.lo r.side.hi)
fits_at (suc i) (r ∷ rows) = fits_at i rows

abbrev pub came_after : ℕ → ℕ → List ℕ → List ℕ
came_after k i [] = []
came_after k zero (x ∷ came) = k ∷ suc k ∷ came
came_after k (suc i) (x ∷ came) = x ∷ came_after k i came

abbrev pub go_on : (ℕ → List ℕ → List Row → Grown) → ℕ → List ℕ → List Row → Chosen → Grown
go_on again k came rows none = finished rows
go_on again k came rows (this i) = pick (fits_at i rows) (again (suc (suc k)) (came_after k i came) (split_at i rows))
    (refused i)

abbrev pub least : ℕ → ℕ → ℕ
least x y = pick (ltb x y) x y

module _ (σ κ : ℕ → ℕ) where
  abbrev pub point_of : Interval → ℕ
  point_of s = at σ κ 0 (interval_frame s)

  abbrev pub even_side : Interval → Bool
  even_side s = fixes σ κ (carried (interval_frame s) mat_s (interval_frame s))

  abbrev pub odd_side : Interval → Bool
  odd_side s = fixes σ κ (carried (interval_frame s) mat_q (interval_frame s))

  abbrev pub mates : Interval → Interval → Bool
  mates s q = fixes σ κ (carried (interval_frame q) mat_s (interval_frame s))

  abbrev pub label : Interval → Interval → ℕ
  label s q = least (point_of s) (point_of q)

  abbrev pub seek : Interval → List Row → Sought
  seek s [] = nobody
  seek s (q ∷ rows) = pick (is_open q.mark && mates s q.side)
      (found (label s q.side) (row q.side (free (label s q.side)) ∷ rows))
      (behind q (seek s rows))

  abbrev pub visit_by : Sought → Row → List Row → Visited
  visit_by nobody r rows = visited r rows
  visit_by (found x rows') r rows = visited (row r.side (free x)) rows'

  abbrev pub visit_side : Row → List Row → Visited
  visit_side r rows =
      pick (is_open r.mark)
      (pick (even_side r.side) (visited (row r.side even) rows)
      (pick (odd_side r.side) (visited (row r.side odd) rows) (visit_by (seek r.side rows) r rows)))
      (visited r rows)

  -- the first n sides are visited
  abbrev pub visit_to : ℕ → List Row → List Row
  visit_to zero rows = rows
  visit_to (suc n) [] = []
  visit_to (suc n) (r ∷ rows) = (visit_side r rows).row ∷ visit_to n (visit_side r rows).rest

  abbrev pub visit_all : List Row → List Row
  visit_all rows = visit_to (length rows) rows

module _ (order : Order) (σ κ : ℕ → ℕ) where
  abbrev pub rounds : ℕ → ℕ → List ℕ → List Row → Grown
  rounds zero k came rows = finished (visit_all σ κ rows)
  rounds (suc n) k came rows =
      go_on (rounds n) k came (visit_all σ κ rows) (chosen_by order came (opens (visit_all σ κ rows)))

abbrev pub sides_from : Vertex → List Vertex → List Row
sides_from x [] = row (interval x infinity) unpaired ∷ []
sides_from x (y ∷ l) = row (interval x y) unpaired ∷ sides_from y l

abbrev pub start_rows : (σ κ : ℕ → ℕ) → List Row
start_rows σ κ =
    let zero_one = vertex (pos 0) 1 in
    pick (fixes σ κ mat_q) (sides_from minus_infinity (vertex (negsuc 0) 1 ∷ zero_one ∷ []))
    (sides_from minus_infinity (zero_one ∷ vertex (pos 1) 1 ∷ []))

abbrev pub start_came : List ℕ
start_came = 0 ∷ 1 ∷ 2 ∷ []
