-- WHAT THE JOB `to-cycles` WRITES, byte for byte: the text is read as `import` reads it
-- (symbol_texts/specs/ImportAnswer.antt, `request_of`).
--
--   export_line_by c bs     the bytes bs of an export and a line end where the checks accept the pair, or the refusal's
--                           line
--   export_line s r         the line for the tables s and r
--   export_line_for a       the line for what is asked
--   to_cycles_text longer text  the bytes for a text
--   ExportPrinted s r bytes     the bytes are the export of s and r and a line end, and reading that export returns the
--                               tables
--   ExportPrintMeans a bytes    that holds wherever the tables that are asked for are accepted
-- An export has at most 65,536 bytes (cycle_writing/specs/Export.antt, `Exported`), and the program's space one more,
-- for the line end: the refusal 11 of `write_cycles` never occurs there.
use Rattle.std.specs.Prelude.{◌≡◌, Bool, List, [], ◌∷◌, ◌++◌, ℕ, Ok, Err}
use Rattle.call.specs.Refusal.{Checked}
use Rattle.text.specs.Line.{refusal_line}
use Rattle.permutations.specs.Check.{pair_check}
use Rattle.cycle_writing.specs.Bytes.{export_of}
use Rattle.cycle_writing.specs.Export.{Exported}
use Rattle.symbol_texts.specs.ImportAnswer.{Request, tables, refused, request_of}

abbrev pub export_line_by : Checked → List ℕ → List ℕ
export_line_by (Ok tt) bs = bs ++ (10 ∷ [])
export_line_by (Err f) bs = refusal_line f

unfoldable pub export_line : (s r : List ℕ) → List ℕ
export_line s r = export_line_by (pair_check s r) (export_of s r)

abbrev pub export_line_for : Request → List ℕ
export_line_for (tables s r) = export_line s r
export_line_for (refused f) = refusal_line f

unfoldable pub to_cycles_text : Bool → List ℕ → List ℕ
to_cycles_text longer text = export_line_for (request_of longer text)

pub record ExportPrinted (s r bytes : List ℕ) : Type 0 where
  pub bytes_are : bytes ≡ export_of s r ++ (10 ∷ [])
  pub exported : Exported s r (export_of s r)

abbrev pub ExportPrintMeans : Request → (bytes : List ℕ) → Type 0
ExportPrintMeans a bytes = (s r : List ℕ) → a ≡ tables s r → pair_check s r ≡ Ok tt → ExportPrinted s r bytes
