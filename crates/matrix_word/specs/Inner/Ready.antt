-- What the inner functions ask for, and give.
--
--   matrix_admitted v t m work    the refusals 1 to 7, then 28 and 9, then the work space
--   MatrixReady t v w m x         the tables are in the work space, x is the start, and the matrix passes 28 and 9
use Rattle.std.specs.Prelude.{◌≡◌, List, ℕ, ℤ, pos}
use Rattle.matrix.specs.Matrix.{det, of_list}
use Rattle.matrix.specs.Bounds.{Small}
use Rattle.call.specs.Space.{work_length}
use Rattle.call.specs.Refusal.{◌or_else◌, Checked}
use Rattle.call.specs.Call.{length_check}
use Rattle.symbol.specs.Check.{symbol_check}
use Rattle.coset.specs.Positions.{start_of}
use Rattle.coset.specs.Inner.Steps.{StepTables}
use Rattle.matrix_word.specs.Answer.{most_entry, matrix_check}

abbrev pub matrix_admitted : (v : ℕ) (t m : List ℤ) (work : ℕ) → Checked
matrix_admitted v t m work = symbol_check v t or_else matrix_check m or_else length_check work_length work

pub record MatrixReady (t : List ℤ) (v : ℕ) (w : List ℕ) (m : List ℤ) (x : ℕ) : Type 0 where
  pub prepared : StepTables t v w
  pub start : x ≡ start_of v t
  pub entries : Small most_entry (of_list m)
  pub unit : det (of_list m) ≡ pos 1
