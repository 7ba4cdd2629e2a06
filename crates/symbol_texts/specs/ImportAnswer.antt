-- WHAT THE JOBS `import` AND `import-wide` WRITE, byte for byte: by the rule under the order `leftmost`, and by the
-- wide rule, under `longest_open`.
--
--   number_line zs           the numbers zs in one line, a space between each two
--   symbol_lines v t         a symbol in the form that the listing program reads: v, the vertices, the pairings
--   table_point z            a number of the text as an entry of a table: one that doesn't fit the table's type is
--                            given as its greatest number, which is outside every table
--   points_from from n ns    n of the numbers ns as a table, from the place `from` on
--   Request                  what a text asks for: the symbol of two tables; or it is refused before there are tables
--   tables_in ns             what the numbers handed on ask for: the index and two tables; the index alone is out of
--                            range, and that is refusal 12
--   import_format            the index n from 1 to 3,066, and then n entries of S and n of R
--   request_of longer text   what a text asks for
--   lines_by a t             the lines for an answer: the symbol with the table t, or the refusal's line
--   import_lines order s r   the lines for two tables: 12 to 15, then 16, or the symbol; every symbol has room
--   lines_for order a        the lines for what is asked
--   imported_by order longer text   the bytes for a text
use Rattle.std.specs.Prelude.{Ok, Err}
use Rattle.std.specs.Prelude.{Bool, List, [], ◌∷◌, ◌++◌, map, ℕ, ◌+◌, ◌-◌}
use Rattle.std.specs.Prelude.{◌*◌, ◌/◌, ltb, ℤ, pos, negsuc, length, take, drop}
use Rattle.call.specs.Refusal.{◌or_else◌, Filled}
use Rattle.call.specs.declared.refusal.Refusal.TheVariants.{PointCount}
use Rattle.call.specs.declared.refusal.Refusal.{Refusal}
use Rattle.basics.specs.Choice.{pick}
use Rattle.call.specs.Inner.Fills.{made_if}
use Rattle.decimal.specs.Decimal.{decimal_of}
use Rattle.text.specs.Reading.{input_gives}
use Rattle.text.specs.declared.Format.{Format}
use Rattle.text.specs.Line.{natural, spaced, refusal_line}
use Rattle.import_symbol.specs.Answer.{check16, ruled_table}
use Rattle.import_rule.specs.Order.{Order}
use Rattle.import_rule.specs.Symbol.{ruled_by}
use Rattle.permutations.specs.Check.{pair_check}
use Rattle.import_call.specs.Import.{needed_vertices}

unfoldable pub number_line : List ℤ → List ℕ
number_line [] = 10 ∷ []
number_line (z ∷ zs) = decimal_of z ++ (spaced zs ++ (10 ∷ []))

unfoldable pub symbol_lines : ℕ → List ℤ → List ℕ
symbol_lines v t = number_line (natural v ∷ []) ++ number_line (take (2 * v) t) ++ number_line (drop (2 * v) t)

unfoldable pub table_point : ℤ → ℕ
table_point (pos x) = pick (ltb x 4294967295) x 4294967295
table_point (negsuc x) = 4294967295

abbrev pub points_from : (from n : ℕ) → List ℤ → List ℕ
points_from from n ns = map table_point (take n (drop from ns))

pub data Request : Type 0 where
  tables : (s r : List ℕ) → Request
  refused : Refusal → Request

unfoldable pub tables_in : List ℤ → Request
tables_in ns =
    let n = (length ns - 1) / 2 in
    pick (ltb (length ns) 3) (refused PointCount) (tables (points_from 1 n ns) (points_from (n + 1) n ns))

abbrev pub import_format : Format
import_format = record { least = 1; most = 3066; each = 2; more = 1 }

unfoldable pub request_of : Bool → List ℕ → Request
request_of longer text = input_gives import_format 6133 tables_in refused longer text

abbrev pub lines_by : Filled → List ℤ → List ℕ
lines_by (Ok v) t = symbol_lines v t
lines_by (Err f) t = refusal_line f

unfoldable pub import_lines : Order → (s r : List ℕ) → List ℕ
import_lines order s r =
    lines_by (made_if (needed_vertices r) (pair_check s r or_else check16 (ruled_by order s r)))
    (ruled_table (ruled_by order s r))

abbrev pub lines_for : Order → Request → List ℕ
lines_for order (tables s r) = import_lines order s r
lines_for order (refused f) = refusal_line f

unfoldable pub imported_by : Order → Bool → List ℕ → List ℕ
imported_by order longer text = lines_for order (request_of longer text)
