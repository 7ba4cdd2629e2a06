-- A PAIR OF PERMUTATIONS AS TEXT, as the job `import` reads one.
--
--   pair_text s r      three lines: the number of points, the entries of s, the entries of r, a space between each two
--   pair_lines_by a s r  the lines for an answer of a call that makes the tables s and r: these, or the refusal's line
--   PairReadBack s r bytes    the job `import`, given these bytes, reads the tables s and r
use Rattle.std.specs.Prelude.{◌≡◌, false, List, [], ◌∷◌, ◌++◌, map, ℕ, length, Ok, Err}
use Rattle.call.specs.Refusal.{Filled}
use Rattle.text.specs.Line.{natural, refusal_line}
use Rattle.symbol_texts.specs.ImportAnswer.{number_line, request_of, tables}

unfoldable pub pair_text : (s r : List ℕ) → List ℕ
pair_text s r = number_line (natural (length s) ∷ []) ++ number_line (map natural s) ++ number_line (map natural r)

abbrev pub pair_lines_by : Filled → (s r : List ℕ) → List ℕ
pair_lines_by (Ok n) s r = pair_text s r
pair_lines_by (Err f) s r = refusal_line f

abbrev pub PairReadBack : (s r bytes : List ℕ) → Type 0
PairReadBack s r bytes = request_of false bytes ≡ tables s r
