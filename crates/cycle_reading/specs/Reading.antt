-- Cycle notation read: the steps of `read_cycles`, and what its number and place mean.
--
--     table_of_s q, table_of_r q  the tables of S and R that the reading q has cycles for
--     check_by v                the refusal by the verdict v on a text: 27 with its place, or 12; or else that of the
--                               permutation checks on the tables, 12 to 15, whose places count from 0
--     cycles_check t            the refusal of the text t
--     read_s t, read_r t        the tables of S and R of a text that is right; nothing for another text
--     read_steps t s r          that refusal, and then the table of S at the front of s and that of R at the front of
--                               r: 11 with the number of points where one of them is too short
--     OneReading                [one-reading] the tables of a text are those of each reading that the grammar allows:
--                               all of these have the same tables, and `verdict_of`, which runs two readers, finds them
--     PairFault s r f           the tables s and r are no pair of permutations as wanted, and f, one of 13 to 15, is
--                               their first fault
--     ReadCyclesMean t a b s r number place    what number and place mean, for result spaces of length a and b that
--                               have s and r in them after the call: the place where the text leaves the form; a
--                               written number that is no index; a text of the form, whose tables have a fault, or
--                               find no room, or stand in the result spaces
--
-- proofs/Answered.antt: `one_reading`; and `means_only`, that what number and place mean allows no others, so that
-- `verdict_of` need not be read.
use Rattle.std.specs.Prelude.{◌≡◌, ◌⊎◌, List, [], ◌++◌, ℕ, ◌≤◌, ◌<◌, take, Err}
use Rattle.call.specs.Refusal.{Checked, refusal_number, refusal_place}
use Rattle.call.specs.declared.refusal.Refusal.TheVariants.{PointCount, BadCycles}
use Rattle.call.specs.declared.refusal.Refusal.{Refusal}
use Rattle.call.specs.Call.{Lent, Step, asks, stores}
use Rattle.permutations.specs.Check.{pair_check, Passport}
use Rattle.cycle_notation.specs.Piece.{cycle_pieces, without_offsets}
use Rattle.cycle_notation.specs.Form.{Right}
use Rattle.cycle_notation.specs.Place.{WrongAt}
use Rattle.cycle_notation.specs.Verdict.{Read, Verdict, reads, index_out, leaves, IndexOut}
use Rattle.cycle_notation.specs.Table.{cycle_table}
use Rattle.cycle_notation.specs.Inner.Reader.{verdict_of}

abbrev pub table_of_s : Read → List ℕ
table_of_s q = cycle_table q.index q.of_s

abbrev pub table_of_r : Read → List ℕ
table_of_r q = cycle_table q.index q.of_r

abbrev pub check_by : Verdict → Checked
check_by (leaves place) = Err (BadCycles place)
check_by index_out = Err PointCount
check_by (reads q) = pair_check (table_of_s q) (table_of_r q)

abbrev pub cycles_check : List ℕ → Checked
cycles_check t = check_by (verdict_of t)

abbrev pub read_table : (Read → List ℕ) → Verdict → List ℕ
read_table table (leaves place) = []
read_table table index_out = []
read_table table (reads q) = table q

abbrev pub read_s : List ℕ → List ℕ
read_s t = read_table table_of_s (verdict_of t)

abbrev pub read_r : List ℕ → List ℕ
read_r t = read_table table_of_r (verdict_of t)

abbrev pub read_steps : List ℕ → (s r : Lent (List ℕ)) → List Step
read_steps t s r = asks (cycles_check t) ++ stores (read_s t) s ++ stores (read_r t) r

-- ---- what number and place mean

pub record PairFault (s r : List ℕ) (f : Refusal) : Type 0 where
  pub first : pair_check s r ≡ Err f
  pub low : 13 ≤ refusal_number f
  pub high : refusal_number f ≤ 15
  pub none : ¬ Passport s r

-- the text t is right, and q is how it reads
abbrev pub RightAs : List ℕ → Read → Type 0
RightAs t q = Right (without_offsets (cycle_pieces t)) q.index q.of_s q.of_r

-- read_s and read_r are the tables of each of its readings
abbrev pub OneReading : Type 0
OneReading = (t : List ℕ) (q : Read) → RightAs t q → (read_s t ≡ table_of_s q) × (read_r t ≡ table_of_r q)

-- and its tables are a pair of permutations as wanted
pub record GoodPair (t : List ℕ) (q : Read) : Type 0 where
  pub right : RightAs t q
  pub passport : Passport (table_of_s q) (table_of_r q)

pub data ReadCyclesMean (t : List ℕ) (a b : ℕ) (s r : List ℕ) : (number place : ℕ) → Type 0 where
  leaves_form : (place : ℕ) → ¬ IndexOut (without_offsets (cycle_pieces t)) → WrongAt t place
      → ReadCyclesMean t a b s r 27 place
  no_index : IndexOut (without_offsets (cycle_pieces t)) → ReadCyclesMean t a b s r 12 0
  no_pair : (q : Read) → RightAs t q → (f : Refusal) → PairFault (table_of_s q) (table_of_r q) f
      → ReadCyclesMean t a b s r (refusal_number f) (refusal_place f)
  no_room : (q : Read) → GoodPair t q → (a < q.index) ⊎ (b < q.index) → ReadCyclesMean t a b s r 11 q.index
  tables_made : (q : Read) → GoodPair t q → q.index ≤ a → q.index ≤ b → take q.index s ≡ table_of_s q
      → take q.index r ≡ table_of_r q
      → ReadCyclesMean t a b s r 0 q.index
