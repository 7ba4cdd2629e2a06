-- The steps of `write_cycles`, and what an export is: reading it returns the tables.
--
--     export_steps s r out      the refusals 12 to 15 of the tables s and r, and then their export at the front of the
--                               result space out: 11 with its length where out is too short
--     Exported s r t            t is the export of the tables s and r, which are a passport, and has 65,536 bytes at
--                               most; it is a right text with their index and their cycles; these cycles make the
--                               tables again; and this is what a reader says of it. So reading an export returns the
--                               tables.
use Rattle.std.specs.Prelude.{◌≡◌, List, ◌++◌, ℕ, ◌≤◌, length}
use Rattle.call.specs.Call.{Lent, Step, asks, stores}
use Rattle.cycle_notation.specs.Piece.{cycle_pieces, without_offsets}
use Rattle.cycle_notation.specs.Form.{Right}
use Rattle.cycle_notation.specs.Table.{cycle_table}
use Rattle.cycle_notation.specs.Verdict.{reads}
use Rattle.cycle_notation.specs.Inner.Reader.{verdict_of}
use Rattle.permutations.specs.Check.{pair_check, Passport}
use Rattle.cycle_writing.specs.Cycles.{cycles_of}
use Rattle.cycle_writing.specs.Bytes.{export_of}

abbrev pub export_steps : (s r : List ℕ) → Lent (List ℕ) → List Step
export_steps s r out = asks (pair_check s r) ++ stores (export_of s r) out

pub record Exported (s r t : List ℕ) : Type 0 where
  pub passport : Passport s r
  pub text : t ≡ export_of s r
  pub most : length t ≤ 65536
  pub right : Right (without_offsets (cycle_pieces t)) (length s) (cycles_of s) (cycles_of r)
  pub S_table : cycle_table (length s) (cycles_of s) ≡ s
  pub R_table : cycle_table (length s) (cycles_of r) ≡ r
  pub reads_back : verdict_of t ≡ reads (record { index = length s; of_s = cycles_of s; of_r = cycles_of r })
