-- The finished symbol, written from the sides done in the work space.
--
--   vertices_to w i      the entries of the first i vertices
--   Paired               what writing one pairing does: -2, -3, the label's number, or the next free number where it
--                        has none
--   pairings_in w d      the pairings of the d sides done
--   paired w d out       out with these pairings behind the vertex entries
--   table_written w d out  out with the symbol's table at its front
--   SideToWrite          what writing one pairing asks for
--   large_by order s r   what the rule gives for a group that is none of the small ones
--   HasRoom g room       the table that the rule gives fits into a result space of that length
use Rattle.std.specs.Prelude.{◌≡◌, Bool, List, [], ◌∷◌, ◌++◌, ℕ, zero, suc, ◌+◌, ◌-◌, ◌*◌, ◌≤◌, ◌<◌, length, get_or, set, take, drop, ℤ, pos, negsuc}
use Rattle.permutations.specs.Pair.{image, Pair}
use Rattle.import_rule.specs.Fixed.{by_q}
use Rattle.import_rule.specs.Rule.{Mark, even, odd, free, least}
use Rattle.import_rule.specs.Order.{Order}
use Rattle.import_rule.specs.Symbol.{labels_of, row_entries, symbol_table, Ruled, made}
use Rattle.import_rule.specs.Inner.Placed.{rows_of, mark_of, symbol_by}
use Rattle.import_sides.specs.Inner.Work.{LABEL, DONE, cell_place, end_at, point_at, done_in, grown_by}

abbrev pub vertices_to : List ℕ → ℕ → List ℤ
vertices_to w zero = []
vertices_to w (suc i) = vertices_to w i ++ ((end_at w (cell_place DONE i)).num ∷ pos (end_at w (cell_place DONE i)).den ∷ [])

module _ (σ κ : ℕ → ℕ) where
  pub data Paired (w : List ℕ) (out : List ℤ) (m j c : ℕ) (w' : List ℕ) (out' : List ℤ) (c' : ℕ) : Type 0 where
    is_even : σ m ≡ m → w' ≡ w → out' ≡ set out j (negsuc 1) → c' ≡ c → Paired w out m j c w' out' c'
    is_odd_is : ¬ (σ m ≡ m) → κ m ≡ m → w' ≡ w → out' ≡ set out j (negsuc 2) → c' ≡ c → Paired w out m j c w' out' c'
    is_new : ¬ (σ m ≡ m) → ¬ (κ m ≡ m) → get_or w (LABEL + least m (σ m)) 0 ≡ 0 → w'
        ≡ set w (LABEL + least m (σ m)) (c + 1) → out' ≡ set out j (pos (c + 1))
        → c' ≡ c + 1 → Paired w out m j c w' out' c'
    is_old : ¬ (σ m ≡ m) → ¬ (κ m ≡ m) → ¬ (get_or w (LABEL + least m (σ m)) 0 ≡ 0) → w' ≡ w → out'
        ≡ set out j (pos (get_or w (LABEL + least m (σ m)) 0)) → c' ≡ c
        → Paired w out m j c w' out' c'

  abbrev pub pairings_in : List ℕ → ℕ → List ℤ
  pairings_in w d = row_entries (labels_of (rows_of σ κ (done_in w d))) (rows_of σ κ (done_in w d))

  abbrev pub paired : List ℕ → ℕ → List ℤ → List ℤ
  paired w d out = take (2 * (d - 1)) out ++ pairings_in w d ++ drop (3 * (d - 1) + 1) out

  abbrev pub table_written : List ℕ → ℕ → List ℤ → List ℤ
  table_written w d out = symbol_table (rows_of σ κ (done_in w d)) ++ drop (3 * (d - 1) + 1) out

-- what writing one pairing asks for
pub record SideToWrite (s r w : List ℕ) (out : List ℤ) (i j c : ℕ) : Type 0 where
  pub pair : Pair s r
  pub long : 32768 ≤ length w
  pub side : i ≤ 1024
  pub low : point_at w (cell_place DONE i) < length s
  pub few : c ≤ 1024
  pub room : j < length out

abbrev pub large_by : Order → (s r : List ℕ) → Ruled
large_by order s r = symbol_by (image s) (by_q (image s) (image r)) (grown_by order s r)

pub record HasRoom (g : Ruled) (room : ℕ) : Type 0 where
  pub fits : (v : ℕ) (t : List ℤ) → g ≡ made v t → 3 * v + 1 ≤ room
