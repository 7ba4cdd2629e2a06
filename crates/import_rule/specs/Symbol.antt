-- The finished symbol, and the two small groups.
--
--   labels_from l rows    the labels l and those of the rows that are new, in order
--   labels_of rows       the labels of the rows, each once, by their leftmost side
--   entry labels m       the pairing of a side with the mark m: -2, -3, or the number of its label, from 1
--   vertices_of rows     the entries of the vertices: the right ends of all sides but the last
--   symbol_table rows    the symbol's table, vertex entries before pairings
--   Ruled                what the rule gives: v and the table, or refusal 16 with its side
--   rule_by order σ κ n  THE RULE UNDER AN ORDER, whole, for n points
--   ruled_by order s r   what the rule gives for the tables s and r of S and R
use Rattle.std.specs.Prelude.{Bool, ◌&&◌, List, [], ◌∷◌, ◌++◌, ℕ, suc, ◌-◌, length, ℤ, pos, negsuc}
use Rattle.matrix.specs.Matrix.{mat_s, mat_t, mat_q}
use Rattle.basics.specs.Choice.{pick}
use Rattle.symbol.specs.Table.{carried}
use Rattle.numbering.specs.Find.{find}
use Rattle.numbering.specs.Order.{add}
use Rattle.permutations.specs.Pair.{image}
use Rattle.import_rule.specs.Fixed.{by_q, fixes}
use Rattle.import_rule.specs.Side.{Interval}
use Rattle.import_rule.specs.Order.{Order}
use Rattle.import_rule.specs.Rule.{Mark, unpaired, even, odd, free, Row, Grown, finished, refused, rounds}
use Rattle.import_rule.specs.Rule.{start_rows, start_came}

abbrev pub noted : List ℕ → Mark → List ℕ
noted l unpaired = l
noted l even = l
noted l odd = l
noted l (free x) = add l x

abbrev pub labels_from : List ℕ → List Row → List ℕ
labels_from l [] = l
labels_from l (r ∷ rows) = labels_from (noted l r.mark) rows

abbrev pub labels_of : List Row → List ℕ
labels_of rows = labels_from [] rows

-- an open side has no pairing; there is none in a finished symbol
abbrev pub entry : List ℕ → Mark → ℤ
entry labels unpaired = pos 0
entry labels even = negsuc 1
entry labels odd = negsuc 2
entry labels (free x) = pos (suc (find labels x))

abbrev pub row_entries : List ℕ → List Row → List ℤ
row_entries labels [] = []
row_entries labels (r ∷ rows) = entry labels r.mark ∷ row_entries labels rows

abbrev pub vertices_of : List Row → List ℤ
vertices_of [] = []
vertices_of (r ∷ []) = []
vertices_of (r ∷ q ∷ rows) = r.side.hi.num ∷ pos r.side.hi.den ∷ vertices_of (q ∷ rows)

abbrev pub symbol_table : List Row → List ℤ
symbol_table rows = vertices_of rows ++ row_entries (labels_of rows) rows

pub data Ruled : Type 0 where
  made : ℕ → List ℤ → Ruled
  over : ℕ → Ruled

abbrev pub symbol_from : Grown → Ruled
symbol_from (finished rows) = made (length rows - 1) (symbol_table rows)
symbol_from (refused i) = over i

-- the vertex 0/1 with two pairings
abbrev pub one_vertex : ℤ → ℤ → Ruled
one_vertex x y = made 1 (pos 0 ∷ pos 1 ∷ x ∷ y ∷ [])

abbrev pub rule_by : Order → (σ κ : ℕ → ℕ) → ℕ → Ruled
rule_by order σ κ n =
    pick (fixes σ κ mat_s && fixes σ κ mat_t) (one_vertex (negsuc 1) (negsuc 2))
    (pick (fixes σ κ mat_q && fixes σ κ (carried mat_s mat_q mat_s)) (one_vertex (negsuc 2) (negsuc 2))
    (symbol_from (rounds order σ κ n 3 start_came (start_rows σ κ))))

abbrev pub ruled_by : Order → (s r : List ℕ) → Ruled
ruled_by order s r = rule_by order (image s) (by_q (image s) (image r)) (length s)
