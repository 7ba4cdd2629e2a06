-- The pieces of a text: the longest runs of bytes with no blank between them.
--     Piece                     a piece: the offset where it begins (at), and the number that it says, or none (says)
--     begins inside b           a piece begins at the byte b: b is not blank, and the byte before it is not in a piece
--                               (inside)
--     piece_at at t              the piece that begins at the offset `at`, where the text goes on with t
--     pieces_from at inside t   the pieces that begin in t, whose first byte stands at the offset `at` of the whole
--                               text
--     pieces t                  the pieces of t
--     first_bad ps              where the first of the pieces ps that is no number begins; none where each is one
--     numbers ps                the numbers that the pieces ps say
--     place_at ps k             where the piece k of ps begins, counted from 0; 0 where there are not so many
use Rattle.std.specs.Prelude.{ℕ, zero, suc, Bool, false, not, ◌||◌, List, [], ◌∷◌, ℤ, Option, None, Some}
use Rattle.basics.specs.Choice.{pick}
use Rattle.text.specs.Blank.{is_blank, until_blank}
use Rattle.text.specs.Number.{integer_from}

pub record Piece : Type 0 where
  pub at : ℕ
  pub says : Option ℤ

abbrev pub begins : Bool → ℕ → Bool
begins inside b = not (inside || is_blank b)

abbrev pub piece_at : ℕ → List ℕ → Piece
piece_at at t = record { at = at; says = integer_from (until_blank t) }

unfoldable pub pieces_from : ℕ → Bool → List ℕ → List Piece
pieces_from at inside [] = []
pieces_from at inside (b ∷ t) =
    let rest = pieces_from (suc at) (not (is_blank b)) t in
    pick (begins inside b) (piece_at at (b ∷ t) ∷ rest) rest

unfoldable pub pieces : List ℕ → List Piece
pieces t = pieces_from 0 false t

unfoldable pub first_bad : List Piece → Option ℕ
first_bad [] = None
first_bad (p ∷ ps) = elim p.says [ None ↦ Some p.at | Some n ↦ first_bad ps ]

unfoldable pub numbers : List Piece → List ℤ
numbers [] = []
numbers (p ∷ ps) = elim p.says [ None ↦ numbers ps | Some n ↦ n ∷ numbers ps ]

unfoldable pub place_at : List Piece → ℕ → ℕ
place_at [] k = 0
place_at (p ∷ ps) zero = p.at
place_at (p ∷ ps) (suc k) = place_at ps k
