-- WHAT THE PROGRAM `listing` WRITES, byte for byte (docs/CONVENTIONS.md, 10.5).
--
--   figure_line name f              the line of a figure: its number, or `refused` with number and place
--   kind_word k                     a space and free, even or odd, for the kinds 1, 2 and 3 of the generator table
--   generator_line j row            generator j: its number, its kind, its four entries
--   generator_lines n table         those of the first n generators, in order
--   count_lines n e2 e3 k           index, elliptic counts (e2 before e3), cusps
--   cusp_lines widths genus level   widths, genus, level
--   figure_lines f widths           both, of the figures f
--   generator_part v t              how many generators, and their lines
--   table_lines s r u               the tables of S, R and T
--   listed_lines v t                the lines of a symbol's figures, generators and tables
--   listing_lines v t               all of it for the symbol in t, or its refusal
--   listing_of longer text          the bytes for a text
--   Listed v t bytes                what the bytes mean for a symbol: they are the lines of its figures, generators and
--                                   tables; the tables are those of the cosets of H and the figures are the tables'
--                                   (`Meaning`), so that the genus is a number in its line; each generator has
--                                   determinant 1 (`Generates`)
--   ListingMeans ..                 that holds for every text whose numbers are a symbol's
use Rattle.std.specs.Prelude.{Ok, Err}
use Rattle.std.specs.Prelude.{◌≡◌, Bool, List, [], ◌∷◌, ◌++◌, map, ℕ}
use Rattle.std.specs.Prelude.{zero, suc, ◌*◌, ℤ, pos, length, take, drop, get_or}
use Rattle.matrix.specs.Matrix.{nth}
use Rattle.basics.specs.Choice.{pick}
use Rattle.decimal.specs.Decimal.{digits}
use Rattle.text.specs.Piece.{pieces, numbers}
use Rattle.text.specs.Reading.{symbol_format, input_of, vertex_count}
use Rattle.call.specs.Refusal.{Filled, refusal_number, refusal_place}
use Rattle.decimal.specs.Ascii.{ascii}
use Rattle.text.specs.Line.{natural, line, refusal_line, answer_lines}
use Rattle.symbol.specs.Check.{eq_z, symbol_check}
use Rattle.symbol.specs.Symbol.{IsSymbol}
use Rattle.pairing.specs.Generator.{leaders, generator_table, Generates}
use Rattle.figures.specs.declared.FigureRecord.{FigureRecord}
use Rattle.coset.specs.Tables.{table_s, table_r, table_t}
use Rattle.coset.specs.Answer.{widths_of, figures_of, Meaning}

unfoldable pub figure_line : List ℕ → Filled → List ℕ
figure_line name (Ok x) = line name (natural x ∷ [])
figure_line name (Err f) =
    name ++ line (ascii " refused") (natural (refusal_number f) ∷ natural (refusal_place f) ∷ [])

abbrev pub kind_word : ℤ → List ℕ
kind_word z = pick (eq_z z (pos 1)) (ascii " free") (pick (eq_z z (pos 2)) (ascii " even") (ascii " odd"))

unfoldable pub generator_line : ℕ → List ℤ → List ℕ
generator_line j row = digits j ++ line (kind_word (get_or row 0 (pos 0))) (drop 1 row)

unfoldable pub generator_lines : ℕ → List ℤ → List ℕ
generator_lines zero table = []
generator_lines (suc n) table = generator_lines n table ++ generator_line (suc n) (take 5 (drop (5 * n) table))

unfoldable pub count_lines : (n e2 e3 k : ℕ) → List ℕ
count_lines n e2 e3 k =
    line (ascii "index") (natural n ∷ []) ++ line (ascii "elliptic") (natural e2 ∷ natural e3 ∷ [])
    ++ line (ascii "cusps") (natural k ∷ [])

unfoldable pub cusp_lines : (widths : List ℕ) → (genus level : Filled) → List ℕ
cusp_lines widths genus level =
    line (ascii "widths") (map natural widths) ++ figure_line (ascii "genus") genus ++ figure_line (ascii "level") level

unfoldable pub figure_lines : FigureRecord → (widths : List ℕ) → List ℕ
figure_lines f widths = count_lines f.index f.e2 f.e3 f.cusps ++ cusp_lines widths f.genus f.level

unfoldable pub generator_part : ℕ → List ℤ → List ℕ
generator_part n table = line (ascii "generators") (natural n ∷ []) ++ generator_lines n table

unfoldable pub table_lines : (s r u : List ℕ) → List ℕ
table_lines s r u =
    line (ascii "S") (map natural s) ++ line (ascii "R") (map natural r) ++ line (ascii "T") (map natural u)

abbrev pub listed_lines : ℕ → List ℤ → List ℕ
listed_lines v t =
    figure_lines (figures_of v t) (widths_of v t)
    ++ generator_part (length (leaders v t)) (generator_table v t)
    ++ table_lines (table_s v t) (table_r v t) (table_t v t)

unfoldable pub listing_lines : ℕ → List ℤ → List ℕ
listing_lines v t =
    answer_lines (symbol_check v t) (listed_lines v t)

abbrev pub read_by : Filled → List ℤ → List ℕ
read_by (Ok k) ns = listing_lines (vertex_count (nth ns 0)) (drop 1 (take k ns))
read_by (Err f) ns = refusal_line f

unfoldable pub listing_of : Bool → List ℕ → List ℕ
listing_of longer text = read_by (input_of longer symbol_format text 3071) (numbers (pieces text))

-- ---- what it means

pub record Listed (v : ℕ) (t : List ℤ) (bytes : List ℕ) : Type 0 where
  pub lines : bytes ≡ listed_lines v t
  pub meaning : Meaning v t
  pub generates : Generates v t

abbrev pub ListingMeans : (longer : Bool) (text bytes : List ℕ) → Type 0
ListingMeans longer text bytes =
    let ns = numbers (pieces text) in
    (k : ℕ) → input_of longer symbol_format text 3071 ≡ Ok k
    → IsSymbol (vertex_count (nth ns 0)) (drop 1 (take k ns))
    → Listed (vertex_count (nth ns 0)) (drop 1 (take k ns)) bytes
