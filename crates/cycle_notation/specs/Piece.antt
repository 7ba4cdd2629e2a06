-- The pieces of a text in cycle notation: a whole run of digits, or one other byte.
--
--     digit_byte b                 b is a digit (48 to 57)
--     CyclePiece                   a number, as its run of digits says it; one of the five bytes that the form has;
--                                  another byte
--     mark b                       the piece that the byte b is, which is no digit
--     run_value m t                 the number that a run of digits says which has said m so far and goes on with t
--     PlacedPiece                  a piece with the offset where it begins
--     cycle_pieces_from at inside t  the pieces that begin in t, whose first byte stands at the offset `at`; `inside`
--                                  where the byte before is a digit, and then no number begins (`number_begun`)
--     cycle_pieces t               the pieces of the text t
--     without_offsets ps           the same without their offsets
-- Zeros in front of a number change nothing, and a number may have any length. A line end (10, 13) is another byte.
use Rattle.std.specs.Prelude.{ℕ, suc, ◌+◌, ◌-◌, ◌*◌, Bool, true, false, ◌&&◌, List, [], ◌∷◌, eqb, leb}
use Rattle.basics.specs.Choice.{pick}

abbrev pub digit_byte : ℕ → Bool
digit_byte b = leb 48 b && leb b 57

pub data CyclePiece : Type 0 where
  number : ℕ → CyclePiece
  blank opening closing comma semicolon another : CyclePiece

abbrev pub mark : ℕ → CyclePiece
mark b =
    pick (eqb b 32) blank
    (pick (eqb b 40) opening
    (pick (eqb b 41) closing
    (pick (eqb b 44) comma
    (pick (eqb b 59) semicolon another))))

unfoldable pub run_value : ℕ → List ℕ → ℕ
run_value m [] = m
run_value m (b ∷ t) = elim (digit_byte b) [ true ↦ run_value (m * 10 + (b - 48)) t | false ↦ m ]

pub record PlacedPiece : Type 0 where
  pub at : ℕ
  pub piece : CyclePiece

-- a digit begins a number, or goes on with the one before it
abbrev pub number_begun : Bool → ℕ → List ℕ → List PlacedPiece → List PlacedPiece
number_begun true at t rest = rest
number_begun false at t rest = record { at = at; piece = number (run_value 0 t) } ∷ rest

unfoldable pub cycle_pieces_from : ℕ → Bool → List ℕ → List PlacedPiece
cycle_pieces_from at inside [] = []
cycle_pieces_from at inside (b ∷ t) = elim (digit_byte b) [
  | true ↦ number_begun inside at (b ∷ t) (cycle_pieces_from (suc at) true t)
  | false ↦ record { at = at; piece = mark b } ∷ cycle_pieces_from (suc at) false t
]

unfoldable pub cycle_pieces : List ℕ → List PlacedPiece
cycle_pieces t = cycle_pieces_from 0 false t

unfoldable pub without_offsets : List PlacedPiece → List CyclePiece
without_offsets [] = []
without_offsets (p ∷ ps) = p.piece ∷ without_offsets ps
