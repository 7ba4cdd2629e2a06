-- What is said of a text in cycle notation, and what that means.
--
--     Read              an index, the cycles of S and the cycles of R
--     Verdict           what was read; an index out of range (12); or the place where the text leaves the form (27)
--     IndexOut ps       behind blanks or none the pieces begin with a number that is no index
--     VerdictMeans t v  what the verdict v says of the text t: it is right with that reading; behind blanks or none it
--                       begins with a number that is no index; or there is no such number, and it leaves the form at
--                       that place
use Rattle.std.specs.Prelude.{◌≡◌, false, List, ◌∷◌, ℕ}
use Rattle.cycle_notation.specs.Piece.{CyclePiece, number, cycle_pieces, without_offsets}
use Rattle.cycle_notation.specs.Form.{Blanks, in_range, Right}
use Rattle.cycle_notation.specs.Place.{WrongAt}

pub record Read : Type 0 where
  pub index : ℕ
  pub of_s : List (List ℕ)
  pub of_r : List (List ℕ)

pub data Verdict : Type 0 where
  reads : Read → Verdict
  index_out : Verdict
  leaves : ℕ → Verdict

-- behind blanks or none the text begins with a number that is no index
pub record IndexOut (ps : List CyclePiece) : Type 0 where
  pub n : ℕ
  pub behind : List CyclePiece
  pub n_is : Blanks ps (number n ∷ behind)
  pub out : in_range n ≡ false

pub data VerdictMeans (t : List ℕ) : Verdict → Type 0 where
  right : (r : Read) → Right (without_offsets (cycle_pieces t)) r.index r.of_s r.of_r → VerdictMeans t (reads r)
  no_index : IndexOut (without_offsets (cycle_pieces t)) → VerdictMeans t index_out
  wrong : (place : ℕ) → ¬ IndexOut (without_offsets (cycle_pieces t)) → WrongAt t place → VerdictMeans t (leaves place)
