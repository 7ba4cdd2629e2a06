-- What the functions inside the crate promise each other.
--     digit_pushed most m b   the number with the digits of m and then the digit b, where it is at most `most`
--     stretch kind t          how many bytes t starts with that are all blank (kind is true), or all not blank (false)
--     left t from             the pieces of t from the offset `from` on, where no piece is under way
--     PieceRead t from n at to  the first of them begins at `at` and says n, and the others are those from `to` on
--     Stuck t from at         the first of them begins at `at` and is no number
--     NextNumber t from n     n is the first of them, a number, or none is left
--     Steps t from s          the same, or the first of them is no number and s is where it begins
--     bad_or_count o n        the count n, or the error o where o is the place of a piece that is no number
--     survey_of ps            how many the pieces ps are, or else where the first of them begins that is no number
--     counted_of f t room     the answer to a text t whose pieces are all numbers
--     left_by r ns out        what the slice holds in the end, where it held `out` and the text's numbers are ns
--     symbol_and more         the format of a symbol's text with other numbers behind the symbol
use Rattle.std.specs.Prelude.{Option, Some, None, Result, Ok, Err}
use Rattle.std.specs.Prelude.{ℕ, suc, ◌+◌, ◌-◌, ◌*◌, ◌≤◌, ◌<◌, ◌≡◌, Bool, true}
use Rattle.std.specs.Prelude.{false, List, [], ◌∷◌, ◌++◌, leb, ℤ, length, take, drop}
use Rattle.std.specs.Bool.{beq}
use Rattle.basics.specs.Choice.{pick}
use Rattle.text.specs.Blank.{is_blank}
use Rattle.text.specs.Number.{is_digit}
use Rattle.text.specs.Piece.{Piece, pieces_from, pieces, first_bad, numbers}
use Rattle.text.specs.Reading.{handed, first_place, answer}
use Rattle.text.specs.declared.Format.{Format}
use Rattle.call.specs.Refusal.{Filled}
use Rattle.text.specs.declared.Number.{Number}

abbrev pub digit_pushed : ℕ → ℕ → ℕ → Option ℕ
digit_pushed most m b =
    pick (is_digit b) (pick (leb (m * 10 + (b - 48)) most) (Some (m * 10 + (b - 48))) None) None

unfoldable pub stretch : Bool → List ℕ → ℕ
stretch kind [] = 0
stretch kind (b ∷ t) = elim (beq (is_blank b) kind) [ true ↦ suc (stretch kind t) | false ↦ 0 ]

unfoldable pub left : List ℕ → ℕ → List Piece
left t from = pieces_from from false (drop from t)

pub record PieceRead (t : List ℕ) (from : ℕ) (n : ℤ) (at to : ℕ) : Type 0 where
  pub here : left t from ≡ record { at = at; says = Some n } ∷ left t to
  pub onward : from < to
  pub inside : to ≤ length t

pub record Stuck (t : List ℕ) (from at : ℕ) : Type 0 where
  pub after : List Piece
  pub here : left t from ≡ record { at = at; says = None } ∷ after

abbrev pub NextNumber : List ℕ → ℕ → Option Number → Type 0
NextNumber t from None = left t from ≡ []
NextNumber t from (Some n) = PieceRead t from n.value n.at n.end

abbrev pub Steps : List ℕ → ℕ → Result (Option Number) ℕ → Type 0
Steps t from (Ok n) = NextNumber t from n
Steps t from (Err at) = Stuck t from at

abbrev pub bad_or_count : Option ℕ → ℕ → Result ℕ ℕ
bad_or_count None n = Ok n
bad_or_count (Some at) n = Err at

abbrev pub survey_of : List Piece → Result ℕ ℕ
survey_of ps = bad_or_count (first_bad ps) (length ps)

abbrev pub counted_of : Format → List ℕ → ℕ → Filled
counted_of f t room =
    answer (first_place f (numbers (pieces t)) (length t) (pieces t)) (handed f (numbers (pieces t))) room

unfoldable pub left_by : Filled → List ℤ → List ℤ → List ℤ
left_by (Ok k) ns out = take k ns ++ drop k out
left_by (Err f) ns out = out

abbrev pub symbol_and : (more : ℕ) → Format
symbol_and more = record { least = 1; most = 1023; each = 3; more = more }
