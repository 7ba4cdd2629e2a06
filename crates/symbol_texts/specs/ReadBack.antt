-- WHAT THE IMPORT PRINTS IS READ AS THE SYMBOL THAT IT MADE.
--
--   ReadBack v t bytes     read by the rule of 19 in the form of a symbol's text (`symbol_format`, which the listing
--                          program reads), `bytes` is no refusal: it is short enough, its numbers are v and then the
--                          table t, and all of them are handed on to any space that has room for them
--   SymbolReadBack         the lines of a symbol always are read so; proofs/ImportReadBack.antt, `symbol_read_back`
--   Printed order s r v bytes    for the tables s and r a symbol of v vertices is made, as `import` promises, and
--                          `bytes` is read back as it
--   PrintMeans order a bytes     that holds of `bytes` wherever what is asked makes a symbol: where the tables pass 12
--                          to 15 and the rule gives one
use Rattle.std.specs.Prelude.{◌≡◌, List, ◌∷◌, ℕ, ◌+◌, ◌*◌, ◌≤◌, ℤ, length, Ok}
use Rattle.text.specs.Piece.{pieces, numbers}
use Rattle.text.specs.Reading.{text_most, symbol_format, reading_of}
use Rattle.text.specs.Line.{natural}
use Rattle.symbol.specs.Symbol.{IsSymbol}
use Rattle.import_symbol.specs.Answer.{check16, ruled_table}
use Rattle.import_rule.specs.Order.{Order}
use Rattle.import_rule.specs.Symbol.{ruled_by}
use Rattle.permutations.specs.Check.{pair_check}
use Rattle.import_call.specs.Import.{needed_vertices, SymbolOfPair}
use Rattle.symbol_texts.specs.ImportAnswer.{Request, tables, symbol_lines}

pub record ReadBack (v : ℕ) (t : List ℤ) (bytes : List ℕ) : Type 0 where
  pub short : length bytes ≤ text_most
  pub says : numbers (pieces bytes) ≡ natural v ∷ t
  pub handed : (room : ℕ) → 3 * v + 2 ≤ room
      → reading_of symbol_format bytes room ≡ Ok (3 * v + 2)

abbrev pub SymbolReadBack : Type 0
SymbolReadBack = (v : ℕ) (t : List ℤ) → IsSymbol v t → ReadBack v t (symbol_lines v t)

pub record Printed (order : Order) (s r : List ℕ) (v : ℕ) (bytes : List ℕ) : Type 0 where
  pub symbol : SymbolOfPair s r v (ruled_table (ruled_by order s r))
  pub read_back : ReadBack v (ruled_table (ruled_by order s r)) bytes

abbrev pub PrintMeans : Order → Request → (bytes : List ℕ) → Type 0
PrintMeans order a bytes = (s r : List ℕ) → a ≡ tables s r → pair_check s r ≡ Ok tt
    → check16 (ruled_by order s r) ≡ Ok tt → Printed order s r (needed_vertices r) bytes
