-- Sides that carry their points: all that the rule asks of a side, it asks of the point 0·M, where M is the side's
-- frame.
--
--   Placed               a side and its point
--   bare u               the side alone
--   pts l                the points of the sides of l
--   lower_at, upper_at   the two parts of a side: 0·M Q S and 0·M Q⁻¹ S are their points
--   is_closed B m        whether a side with the point m is paired where the sides have the points B: it is odd, or the
--                        point beyond it is a side's, its own where it is even, else its partner's
--   opens_at B l          which sides of l are open, B being the points of all sides
--   parts_at i l          side i is split
--   fits_in i l          whether the vertex at which side i is split keeps to the limit
--   grow_by order n k came l   n splits at the most, of the sides that the order chooses; k sides came so far, those of
--                              l as the numbers came
--   grow order n l       the same from a start l of three sides
--   mark_of m             what a closed side with the point m is paired as
--   rows_of l             the sides of l with these marks
--   start_placed         the start of the rule
--   quick_by order n     THE RULE BY POINTS: for every pair of permutations it is `rule_by order` (proofs/Theorem.antt,
--                        `rule_is`)
use Rattle.std.specs.Prelude.{Bool, true, false, not, ◌||◌, ◌&&◌, List, [], ◌∷◌, ℕ, zero, suc, ◌-◌, eqb, length, ℤ, pos, negsuc}
use Rattle.basics.specs.Choice.{pick}
use Rattle.numbering.specs.Find.{is_in}
use Rattle.import_rule.specs.Side.{Vertex, vertex, minus_infinity, infinity, Interval, interval, mediant, fits}
use Rattle.import_rule.specs.Order.{Order, Chosen, none, this, chosen_by}
use Rattle.import_rule.specs.Rule.{Mark, even, odd, free, Row, row, least, came_after, start_came}
use Rattle.import_rule.specs.Symbol as symbol
use Rattle.import_rule.specs.Symbol.{symbol_table, Ruled, made, one_vertex}

pub record Placed : Type 0 where
  pub lo : Vertex
  pub hi : Vertex
  pub pt : ℕ

abbrev pub placed_side : Vertex → Vertex → ℕ → Placed
placed_side x y m = record { lo = x; hi = y; pt = m }

abbrev pub bare : Placed → Interval
bare u = interval u.lo u.hi

abbrev pub pts : List Placed → List ℕ
pts [] = []
pts (u ∷ l) = u.pt ∷ pts l

pub data Grew : Type 0 where
  finished : List Placed → Grew
  refused : ℕ → Grew

abbrev pub fits_in : ℕ → List Placed → Bool
fits_in i [] = true
fits_in zero (u ∷ l) = fits (mediant u.lo u.hi)
fits_in (suc i) (u ∷ l) = fits_in i l

module _ (σ κ : ℕ → ℕ) where
  abbrev pub lower_at : Placed → Placed
  lower_at u = placed_side u.lo (mediant u.lo u.hi) (σ (κ u.pt))

  abbrev pub upper_at : Placed → Placed
  upper_at u = placed_side (mediant u.lo u.hi) u.hi (σ (κ (κ u.pt)))

  abbrev pub is_closed : List ℕ → ℕ → Bool
  is_closed B m = eqb (κ m) m || is_in B (σ m)

  abbrev pub opens_at : List ℕ → List Placed → List Bool
  opens_at B [] = []
  opens_at B (u ∷ l) = not (is_closed B u.pt) ∷ opens_at B l

  abbrev pub parts_at : ℕ → List Placed → List Placed
  parts_at i [] = []
  parts_at zero (u ∷ l) = lower_at u ∷ upper_at u ∷ l
  parts_at (suc i) (u ∷ l) = u ∷ parts_at i l

  abbrev pub go_on : (ℕ → List ℕ → List Placed → Grew) → ℕ → List ℕ → List Placed → Chosen → Grew
  go_on again k came l none = finished l
  go_on again k came l (this i) = pick (fits_in i l) (again (suc (suc k)) (came_after k i came) (parts_at i l)) (refused i)

  abbrev pub grow_by : Order → ℕ → ℕ → List ℕ → List Placed → Grew
  grow_by order zero k came l = finished l
  grow_by order (suc n) k came l = go_on (grow_by order n) k came l (chosen_by order came (opens_at (pts l) l))

  abbrev pub grow : Order → ℕ → List Placed → Grew
  grow order n l = grow_by order n 3 start_came l

  abbrev pub mark_of : ℕ → Mark
  mark_of m = pick (eqb (σ m) m) even (pick (eqb (κ m) m) odd (free (least m (σ m))))

  abbrev pub row_of : Placed → Row
  row_of u = row (bare u) (mark_of u.pt)

  abbrev pub rows_of : List Placed → List Row
  rows_of [] = []
  rows_of (u ∷ l) = row_of u ∷ rows_of l

  abbrev pub start_placed : List Placed
  start_placed =
      let o = vertex (pos 0) 1 in
      let p = vertex (pos 1) 1 in
      let q = vertex (negsuc 0) 1 in
      pick (eqb (κ 0) 0)
      (placed_side minus_infinity q (σ (κ (σ 0))) ∷ placed_side q o (σ (κ (κ (σ 0)))) ∷ placed_side o infinity 0 ∷ [])
      (placed_side minus_infinity o (σ 0) ∷ placed_side o p (σ (κ 0)) ∷ placed_side p infinity (σ (κ (κ 0))) ∷ [])

  abbrev pub symbol_by : Grew → Ruled
  symbol_by (finished l) = made (length l - 1) (symbol_table (rows_of l))
  symbol_by (refused i) = symbol.over i

  abbrev pub quick_by : Order → ℕ → Ruled
  quick_by order n =
      pick (eqb (σ 0) 0 && eqb (κ 0) 0) (one_vertex (negsuc 1) (negsuc 2))
      (pick (eqb (κ 0) 0 && eqb (κ (σ 0)) (σ 0)) (one_vertex (negsuc 2) (negsuc 2))
      (symbol_by (grow order n start_placed)))
