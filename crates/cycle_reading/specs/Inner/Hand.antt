-- The reader as the code runs it: marks for the points named, and a table with the links so far.
--
--     piece_of k               the piece that the code calls k
--     pieces_left t at              the pieces of t from the offset `at` on, where no run of digits is under way
--     digit_run l             how many digits l begins with
--     DigitsRead, FoundAt     what a run of digits, and a piece, must be read as; numbers past 3,066 are as good as
--                             3,067
--     Hand, hand              all that the code knows of a permutation: its part, the marks of the points and the table
--     step_hand               what a piece does to it: the next hand, or why the permutation doesn't go on
--     Stepped h x o marks table    the code answers o for the step x from h, and leaves its marks and its table
use Rattle.std.specs.Prelude.{◌≡◌, Bool, true, false, not, ◌&&◌, List, [], ◌∷◌, ℕ, suc, ◌+◌, ◌-◌, ◌≤◌, ◌<◌, min, leb, ltb}
use Rattle.std.specs.Prelude.{length, get_or, set, drop, Option, None, Some, unwrap_or, Result, Ok, Err}
use Rattle.basics.specs.Choice.{pick}
use Rattle.cycle_notation.specs.Piece.{CyclePiece, number, blank, opening, closing, comma, semicolon, another}
use Rattle.cycle_notation.specs.Piece.{PlacedPiece, digit_byte, run_value, cycle_pieces_from}
use Rattle.cycle_reading.specs.declared.Piece as code
use Rattle.cycle_reading.specs.declared.Piece.TheVariants as kind
use Rattle.cycle_reading.specs.declared.Found.{Found}
use Rattle.cycle_reading.specs.declared.Digits.{Digits}
use Rattle.cycle_reading.specs.declared.phases.Phase.{Phase}
use Rattle.cycle_reading.specs.declared.phases.Phase.TheVariants.{Point}
use Rattle.cycle_reading.specs.declared.phases.Stop.{Stop}
use Rattle.cycle_reading.specs.declared.phases.Stop.TheVariants.{Lost}
use Rattle.cycle_reading.specs.declared.points.Cycle.{Cycle}
use Rattle.cycle_reading.specs.declared.points.Part.{Part}
use Rattle.cycle_reading.specs.Inner.Phases.{behind_blank, behind_opening, behind_closing, behind_comma, at_semicolon, takes_point}

abbrev pub piece_of : code.Piece → CyclePiece
piece_of (kind.Number x) = number x
piece_of kind.Blank = blank
piece_of kind.Opening = opening
piece_of kind.Closing = closing
piece_of kind.Comma = comma
piece_of kind.Semicolon = semicolon
piece_of kind.Another = another

unfoldable pub pieces_left : List ℕ → ℕ → List PlacedPiece
pieces_left t at = cycle_pieces_from at false (drop at t)

unfoldable pub digit_run : List ℕ → ℕ
digit_run [] = 0
digit_run (b ∷ l) = elim (digit_byte b) [ true ↦ suc (digit_run l) | false ↦ 0 ]

pub record DigitsRead (t : List ℕ) (from : ℕ) (r : Digits) : Type 0 where
  pub to_is : r.to ≡ from + digit_run (drop from t)
  pub value_is : r.value ≡ min (run_value 0 (drop from t)) 3067

abbrev pub bounded : CyclePiece → CyclePiece
bounded (number x) = number (min x 3067)
bounded blank = blank
bounded opening = opening
bounded closing = closing
bounded comma = comma
bounded semicolon = semicolon
bounded another = another

pub record FoundAt (t : List ℕ) (at : ℕ) (r : Found) : Type 0 where
  pub piece : CyclePiece
  pub kind : piece_of r.piece ≡ bounded piece
  pub here : pieces_left t at ≡ record { at = at; piece = piece } ∷ pieces_left t r.to
  pub onward : at < r.to
  pub inside : r.to ≤ length t

-- ---- points

pub record Hand : Type 0 where
  pub part : Part
  pub marks : List Bool
  pub table : List ℕ

abbrev pub hand : Part → List Bool → List ℕ → Hand
hand p marks table = record { part = p; marks = marks; table = table }

abbrev pub cycle_at : (first last : ℕ) → Cycle
cycle_at first last = record { first = first; last = last }

abbrev pub part_at : Phase → ℕ → Option Cycle → Part
part_at ph used k = record { phase = ph; used = used; cycle = k }

-- a mark takes the hand to another phase; `)` shuts the cycle
abbrev pub moved : Hand → Result Phase Stop → Result Hand Stop
moved h (Ok ph) = Ok (hand (part_at ph h.part.used h.part.cycle) h.marks h.table)
moved h (Err e) = Err e

abbrev pub shut : Hand → Result Phase Stop → Result Hand Stop
shut h (Ok ph) = Ok (hand (part_at ph h.part.used None) h.marks h.table)
shut h (Err e) = Err e

-- x may be named next: a point may come here, x is one, and it has no mark; there is room
abbrev pub can_name : (n x : ℕ) → Part → List Bool → Bool
can_name n x p marks =
    takes_point p.phase && (leb 1 x && (leb x n && (not (get_or marks (x - 1) false) && ltb p.used n)))

-- the cycle under way, or one that i begins
abbrev pub cycle_or : Option Cycle → ℕ → Cycle
cycle_or k i = unwrap_or k (cycle_at i i)

-- the point i is named: the point before leads to it, and it to the first one of its cycle
abbrev pub named_hand : Hand → ℕ → Hand
named_hand h i = record {
  part = part_at Point (h.part.used + 1) (Some (cycle_at (cycle_or h.part.cycle i).first i));
  marks = set h.marks i true;
  table = set (set h.table (cycle_or h.part.cycle i).last i) i (cycle_or h.part.cycle i).first;
}

abbrev pub named_or : ℕ → ℕ → Hand → Result Hand Stop
named_or n x h = pick (can_name n x h.part h.marks) (Ok (named_hand h (x - 1))) (Err Lost)

abbrev pub room_left : ℕ → Part → Bool
room_left n p = ltb p.used n

abbrev pub step_hand : (semi : Bool) → ℕ → Hand → CyclePiece → Result Hand Stop
step_hand semi n h (number x) = named_or n x h
step_hand semi n h blank = moved h (behind_blank h.part.phase)
step_hand semi n h opening = moved h (behind_opening semi (room_left n h.part) h.part.phase)
step_hand semi n h closing = shut h (behind_closing h.part.phase)
step_hand semi n h comma = moved h (behind_comma (room_left n h.part) h.part.phase)
step_hand semi n h semicolon = Err (at_semicolon semi h.part.phase)
step_hand semi n h another = Err Lost

-- the part of the next hand
abbrev pub hand_part : Result Hand Stop → Result Part Stop
hand_part (Ok g) = Ok g.part
hand_part (Err e) = Err e

-- where a permutation doesn't go on, marks and table stay as they were
abbrev pub hand_left : Hand → Result Hand Stop → Hand
hand_left h (Ok g) = g
hand_left h (Err e) = h

pub record Stepped (h : Hand) (x : Result Hand Stop) (o : Result Part Stop) (marks : List Bool) (table : List ℕ) :
    Type 0 where
  pub part_is : o ≡ hand_part x
  pub marks_are : marks ≡ (hand_left h x).marks
  pub table_is : table ≡ (hand_left h x).table

-- what the code asks for: indexes in the table
abbrev pub CycleFits : Option Cycle → Type 0
CycleFits None = Unit {0}
CycleFits (Some k) = (k.first < 3066) × (k.last < 3066)

abbrev pub PartFits : Part → Type 0
PartFits p = CycleFits p.cycle
