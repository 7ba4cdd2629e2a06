-- Where a text leaves the form (27): the beginning of the first piece after which no ending could make the text right,
-- or the text's length where it stops short. An ending is a list of further pieces: the pieces of the text are whole,
-- so that an ending never goes on with its last run of digits.
--
--     WrongAt t place  the text t leaves the form at this place
-- A piece that begins the fault has one place only: what stands before it can still be completed, and with it no more.
use Rattle.std.specs.Prelude.{◌≡◌, List, [], ◌∷◌, ◌++◌, ℕ, length}
use Rattle.cycle_notation.specs.Piece.{PlacedPiece, cycle_pieces, without_offsets}
use Rattle.cycle_notation.specs.Form.{Right, Completes}

pub data WrongAt (t : List ℕ) : ℕ → Type 0 where
  at_piece : (before : List PlacedPiece) (p : PlacedPiece) (behind : List PlacedPiece) → cycle_pieces t
      ≡ before ++ (p ∷ behind)
      → Completes (without_offsets before) → ¬ Completes (without_offsets before ++ (p.piece ∷ [])) → WrongAt t p.at
  stops_short : Completes (without_offsets (cycle_pieces t))
      → ((n : ℕ) (sc rc : List (List ℕ)) → ¬ Right (without_offsets (cycle_pieces t)) n sc rc) → WrongAt t (length t)
