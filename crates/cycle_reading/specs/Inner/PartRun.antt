-- The reader through one permutation, and how the code's hand holds its state.
--
--     PartOut              where no text can go on; where the permutation was over, with its cycles; or the text's end,
--                          where it may be over or not
--     part_run             that, for the pieces ps from a phase on
--     part_end_of, Kept        the same as the code answers, and what the table then holds
--     code_of ph, phase_of ph  a phase as the code has it, and back
--     run_from semi n first ps     the reader from the phase `first`, before a permutation's first piece
--     HandHolds                the marks are those of the points seen, the table has the links of the cycles done and
--                              of the open one
--     ReadTo               the loop: what is left to read from the offset `at` on says what all of it does
use Rattle.std.specs.Prelude.{◌≡◌, Bool, true, false, List, [], ◌∷◌, ◌++◌, ℕ, suc, ◌+◌, ◌-◌, ◌≤◌, ◌<◌, length, get_or, Option, None, Some}
use Rattle.basics.specs.Count.{count}
use Rattle.numbering.specs.Find.{is_in}
use Rattle.cycle_notation.specs.Piece.{PlacedPiece}
use Rattle.cycle_notation.specs.Form.{free}
use Rattle.cycle_notation.specs.Inner.Reader.{Phase, start, opened, empty, point, wanted, closed, on, over, stop}
use Rattle.cycle_notation.specs.Inner.Reader.{turn_of, may_end}
use Rattle.cycle_notation.specs.Inner.Stores.{cycles_stored, identity, last_of}
use Rattle.cycle_reading.specs.declared.PartEnd.{PartEnd}
use Rattle.cycle_reading.specs.declared.PartEnd.TheVariants as ending
use Rattle.cycle_reading.specs.declared.phases.Phase as code
use Rattle.cycle_reading.specs.declared.phases.Phase.TheVariants.{Start, Opened, Empty, Point, Wanted, Closed}
use Rattle.cycle_reading.specs.declared.points.Cycle.{Cycle}
use Rattle.cycle_reading.specs.declared.points.Part.{Part}
use Rattle.cycle_reading.specs.Inner.Hand.{Hand, hand, cycle_at, PartFits, pieces_left}

pub data PartOut : Type 0 where
  lost : ℕ → PartOut
  passed : ℕ → List (List ℕ) → PartOut
  ended : Bool → List (List ℕ) → PartOut

unfoldable pub part_run : (semi : Bool) (n : ℕ) → Phase → (seen cur : List ℕ) → (done : List (List ℕ)) → List PlacedPiece
    → PartOut
part_run semi n ph seen cur done [] = ended (may_end ph) done
part_run semi n ph seen cur done (p ∷ ps) = elim (turn_of semi n seen cur done ph p.piece) [
  | on ph' seen' cur' done' ↦ part_run semi n ph' seen' cur' done' ps
  | over ↦ passed p.at done
  | stop ↦ lost p.at
]

abbrev pub part_end_of : PartOut → PartEnd
part_end_of (lost at) = ending.Lost at
part_end_of (passed at done) = ending.Over at
part_end_of (ended b done) = ending.Ended b

-- room for all indexes
abbrev pub made : List (List ℕ) → List ℕ
made done = cycles_stored done (identity 3066)

abbrev pub Kept : PartOut → List ℕ → Type 0
Kept (lost at) table = Unit {0}
Kept (passed at done) table = table ≡ made done
Kept (ended b done) table = b ≡ true → table ≡ made done

abbrev pub code_of : Phase → code.Phase
code_of start = Start
code_of opened = Opened
code_of empty = Empty
code_of point = Point
code_of wanted = Wanted
code_of closed = Closed

abbrev pub phase_of : code.Phase → Phase
phase_of Start = start
phase_of Opened = opened
phase_of Empty = empty
phase_of Point = point
phase_of Wanted = wanted
phase_of Closed = closed

abbrev pub run_from : (semi : Bool) (n : ℕ) → code.Phase → List PlacedPiece → PartOut
run_from semi n first ps = part_run semi n (phase_of first) [] [] [] ps

abbrev pub CycleUnderWay : Option Cycle → List ℕ → Type 0
CycleUnderWay k [] = k ≡ None
CycleUnderWay k (a ∷ c) = k ≡ Some (cycle_at (a - 1) (last_of a c - 1))

abbrev pub ShutAt : Phase → List ℕ → Type 0
ShutAt start cur = cur ≡ []
ShutAt opened cur = cur ≡ []
ShutAt empty cur = cur ≡ []
ShutAt point cur = Unit {0}
ShutAt wanted cur = Unit {0}
ShutAt closed cur = cur ≡ []

pub record HandHolds (n : ℕ) (ph : Phase) (seen cur : List ℕ) (done : List (List ℕ)) (h : Hand) : Type 0 where
  pub phase : h.part.phase ≡ code_of ph
  pub marks : (i : ℕ) → i < n → get_or h.marks i false ≡ is_in seen (suc i)
  pub marks_long : length h.marks ≡ 3066
  pub used : h.part.used + count (λ (i : ℕ). free n seen (suc i)) n ≡ n
  pub table : h.table ≡ made (done ++ (cur ∷ []))
  pub fits : PartFits h.part
  pub cycle : CycleUnderWay h.part.cycle cur
  pub shut : ShutAt ph cur

pub record ReadTo (semi : Bool) (n : ℕ) (ph₀ : Phase) (t : List ℕ) (from at : ℕ) (p : Part) (marks : List Bool)
    (table : List ℕ) : Type 0 where
  pub ph : Phase
  pub seen : List ℕ
  pub cur : List ℕ
  pub done : List (List ℕ)
  pub holds : HandHolds n ph seen cur done (hand p marks table)
  pub same : part_run semi n ph seen cur done (pieces_left t at) ≡ part_run semi n ph₀ [] [] [] (pieces_left t from)
  pub within : at ≤ length t

-- what the code returns of a permutation, and the table that it leaves
pub record PartRead (out : PartOut) (r : PartEnd) (table : List ℕ) : Type 0 where
  pub returned : r ≡ part_end_of out
  pub kept : Kept out table
