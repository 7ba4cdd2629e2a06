-- A reader of the form with one state for each thing that may come next. It runs twice, once with a semicolon to come
-- and once without.
--
--     Phase               what may come next in a permutation: its beginning (start); behind its first `(` (opened);
--                         behind `()` (empty); behind a point; a point (wanted), behind a comma or a further `(`;
--                         behind a cycle (closed)
--     room n seen         some point is still free
--     PartTurn            what a piece does to a permutation: it goes on; the permutation was over before this piece;
--                         no text can go on so
--     turn_of              that, by the phase, the points seen, those of the open cycle, and the cycles done
--     State               the front, before the index; within S; within R; lost
--     read_piece, read_all  a piece, and all pieces, one after the other
--     read_outcome             what was read where the text may end here
--     lost a b ps len     the offset of the first piece after which both readers are lost; len where there is none
--     bad_index ps        a number that is no index stands at the front, behind blanks or none
--     verdict_of t        what the two readers say of the text t
use Rattle.std.specs.Prelude.{Bool, true, false, not, ◌&&◌, List, [], ◌∷◌, ◌++◌, ℕ, suc, ltb, length, Option, None, Some}
use Rattle.basics.specs.Choice.{pick}
use Rattle.basics.specs.Count.{first}
use Rattle.cycle_notation.specs.Piece.{CyclePiece, number, blank, opening, closing, comma, semicolon, another}
use Rattle.cycle_notation.specs.Piece.{PlacedPiece, cycle_pieces, without_offsets}
use Rattle.cycle_notation.specs.Form.{free, in_range}
use Rattle.cycle_notation.specs.Verdict.{Read, Verdict, reads, index_out, leaves}

pub data Phase : Type 0 where
  start opened empty point wanted closed : Phase

abbrev pub room : ℕ → List ℕ → Bool
room n seen = ltb (first (λ (i : ℕ). free n seen (suc i)) n) n

pub data PartTurn : Type 0 where
  on : Phase → (seen cur : List ℕ) → (done : List (List ℕ)) → PartTurn
  over stop : PartTurn

module _ (semi : Bool) (n : ℕ) (seen cur : List ℕ) (done : List (List ℕ)) where
  abbrev pub named : ℕ → PartTurn
  named x = pick (free n seen x) (on point (x ∷ seen) (cur ++ (x ∷ [])) done) stop

  abbrev pub start_turn : CyclePiece → PartTurn
  start_turn (number x) = stop
  start_turn blank = on start seen cur done
  start_turn opening = on opened seen cur done
  start_turn closing = stop
  start_turn comma = stop
  start_turn semicolon = pick semi over stop
  start_turn another = stop

  abbrev pub opened_turn : CyclePiece → PartTurn
  opened_turn (number x) = named x
  opened_turn blank = stop
  opened_turn opening = stop
  opened_turn closing = on empty seen cur done
  opened_turn comma = stop
  opened_turn semicolon = stop
  opened_turn another = stop

  abbrev pub empty_turn : CyclePiece → PartTurn
  empty_turn (number x) = stop
  empty_turn blank = on empty seen cur done
  empty_turn opening = pick semi stop over
  empty_turn closing = stop
  empty_turn comma = stop
  empty_turn semicolon = pick semi over stop
  empty_turn another = stop

  abbrev pub point_turn : CyclePiece → PartTurn
  point_turn (number x) = stop
  point_turn blank = stop
  point_turn opening = stop
  point_turn closing = on closed seen [] (done ++ (cur ∷ []))
  point_turn comma = pick (room n seen) (on wanted seen cur done) stop
  point_turn semicolon = stop
  point_turn another = stop

  abbrev pub wanted_turn : CyclePiece → PartTurn
  wanted_turn (number x) = named x
  wanted_turn blank = stop
  wanted_turn opening = stop
  wanted_turn closing = stop
  wanted_turn comma = stop
  wanted_turn semicolon = stop
  wanted_turn another = stop

  abbrev pub closed_turn : CyclePiece → PartTurn
  closed_turn (number x) = stop
  closed_turn blank = on closed seen cur done
  closed_turn opening = pick semi (pick (room n seen) (on wanted seen [] done) stop) over
  closed_turn closing = stop
  closed_turn comma = stop
  closed_turn semicolon = pick semi over stop
  closed_turn another = stop

  abbrev pub turn_of : Phase → CyclePiece → PartTurn
  turn_of start p = start_turn p
  turn_of opened p = opened_turn p
  turn_of empty p = empty_turn p
  turn_of point p = point_turn p
  turn_of wanted p = wanted_turn p
  turn_of closed p = closed_turn p

pub data State : Type 0 where
  front : State
  within_S : (n : ℕ) → Phase → (seen cur : List ℕ) → (done : List (List ℕ)) → State
  within_R : (n : ℕ) → (sc : List (List ℕ)) → Phase → (seen cur : List ℕ) → (done : List (List ℕ)) → State
  dead : State

abbrev pub WithinPart : Type 0
WithinPart = Phase → (seen cur : List ℕ) → (done : List (List ℕ)) → State

abbrev pub after : WithinPart → State → PartTurn → State
after within next (on ph seen cur done) = within ph seen cur done
after within next over = next
after within next stop = dead

-- R begins behind the semicolon, or behind its own `(`
abbrev pub begin_r : (semi : Bool) → ℕ → List (List ℕ) → State
begin_r semi n sc = within_R n sc (pick semi start opened) [] [] []

abbrev pub indexed : CyclePiece → State
indexed (number n) = pick (in_range n) (within_S n start [] [] []) dead
indexed blank = front
indexed opening = dead
indexed closing = dead
indexed comma = dead
indexed semicolon = dead
indexed another = dead

module _ (semi : Bool) where
  abbrev pub read_piece : State → CyclePiece → State
  read_piece front p = indexed p
  read_piece (within_S n ph seen cur done) p = after (within_S n) (begin_r semi n done) (turn_of semi n seen cur done ph p)
  read_piece (within_R n sc ph seen cur done) p = after (within_R n sc) dead (turn_of semi n seen cur done ph p)
  read_piece dead p = dead

  unfoldable pub read_all : State → List CyclePiece → State
  read_all q [] = q
  read_all q (p ∷ ps) = read_all (read_piece q p) ps

-- a permutation may be over
abbrev pub may_end : Phase → Bool
may_end start = true
may_end opened = false
may_end empty = true
may_end point = false
may_end wanted = false
may_end closed = true

abbrev pub read_outcome : State → Option Read
read_outcome front = None
read_outcome (within_S n ph seen cur done) = None
read_outcome (within_R n sc ph seen cur done) = pick (may_end ph) (Some (record { index = n; of_s = sc; of_r = done })) None
read_outcome dead = None

abbrev pub is_dead : State → Bool
is_dead front = false
is_dead (within_S n ph seen cur done) = false
is_dead (within_R n sc ph seen cur done) = false
is_dead dead = true

unfoldable pub lost : State → State → List PlacedPiece → ℕ → ℕ
lost a b [] len = len
lost a b (p ∷ ps) len =
    let a' = read_piece true a p.piece in
    let b' = read_piece false b p.piece in
    pick (is_dead a' && is_dead b') p.at (lost a' b' ps len)

unfoldable pub bad_index : List CyclePiece → Bool
bad_index [] = false
bad_index (number n ∷ ps) = not (in_range n)
bad_index (blank ∷ ps) = bad_index ps
bad_index (opening ∷ ps) = false
bad_index (closing ∷ ps) = false
bad_index (comma ∷ ps) = false
bad_index (semicolon ∷ ps) = false
bad_index (another ∷ ps) = false

-- the first reader's outcome, or the second's, or none
abbrev pub either_read : Option Read → Option Read → ℕ → Verdict
either_read (Some r) b place = reads r
either_read None (Some r) place = reads r
either_read None None place = leaves place

unfoldable pub verdict_of : List ℕ → Verdict
verdict_of t =
    let ps = without_offsets (cycle_pieces t) in
    pick (bad_index ps) index_out
    (either_read (read_outcome (read_all true front ps)) (read_outcome (read_all false front ps))
    (lost front front (cycle_pieces t) (length t)))
