-- One of the two readers alone: through S and then through R.
--
--     Alone                 where it fails, or the cycles of S and of R
--     alone_of semi n t from what the reader says of the text t behind its index n, which ends at `from`
--     either a b            of two readers the first that comes through, or else the later place
--     died semi q ps len    the offset of the first piece after which this reader is lost; len where there is none
use Rattle.std.specs.Prelude.{◌≡◌, Bool, List, [], ◌∷◌, ℕ, ◌+◌, ltb, length, Result, Ok, Err}
use Rattle.basics.specs.Choice.{pick}
use Rattle.cycle_notation.specs.Piece.{PlacedPiece}
use Rattle.cycle_notation.specs.Inner.Reader.{start, State, read_piece, is_dead}
use Rattle.cycle_reading.specs.Inner.Phases.{first_of_r}
use Rattle.cycle_reading.specs.Inner.Hand.{pieces_left}
use Rattle.cycle_reading.specs.Inner.PartRun.{PartOut, lost, passed, ended, part_run, run_from, made}

pub data Alone : Type 0 where
  fails : ℕ → Alone
  through : (sc rc : List (List ℕ)) → Alone

abbrev pub alone_behind_r : (len : ℕ) → (sc : List (List ℕ)) → PartOut → Alone
alone_behind_r len sc (lost at) = fails at
alone_behind_r len sc (passed at done) = fails at
alone_behind_r len sc (ended b rc) = pick b (through sc rc) (fails len)

abbrev pub alone_behind_s : (semi : Bool) (n : ℕ) (t : List ℕ) → PartOut → Alone
alone_behind_s semi n t (lost at) = fails at
alone_behind_s semi n t (passed at sc) =
    alone_behind_r (length t) sc (run_from semi n (first_of_r semi) (pieces_left t (at + 1)))
alone_behind_s semi n t (ended b done) = fails (length t)

abbrev pub alone_of : (semi : Bool) (n : ℕ) (t : List ℕ) (from : ℕ) → Alone
alone_of semi n t from = alone_behind_s semi n t (part_run semi n start [] [] [] (pieces_left t from))

abbrev pub either : Alone → Alone → Alone
either (through sc rc) b = through sc rc
either (fails x) (through sc rc) = through sc rc
either (fails x) (fails y) = fails (pick (ltb x y) y x)

unfoldable pub died : Bool → State → List PlacedPiece → ℕ → ℕ
died semi q [] len = len
died semi q (p ∷ ps) len = let q' = read_piece semi q p.piece in pick (is_dead q') p.at (died semi q' ps len)

-- ---- as the code answers, with the tables that it leaves

abbrev pub solo_of : Alone → Result (Unit {0}) ℕ
solo_of (fails at) = Err at
solo_of (through sc rc) = Ok tt

abbrev pub KeptBoth : Alone → (s r : List ℕ) → Type 0
KeptBoth (fails at) s r = Unit {0}
KeptBoth (through sc rc) s r = (s ≡ made sc) × (r ≡ made rc)

pub record AloneRead (x : Alone) (o : Result (Unit {0}) ℕ) (s r : List ℕ) : Type 0 where
  pub returned : o ≡ solo_of x
  pub kept : KeptBoth x s r

-- R alone: the cycles of S do not matter to it
pub record SecondRead (out : PartOut) (len : ℕ) (o : Result (Unit {0}) ℕ) (r : List ℕ) : Type 0 where
  pub both : (sc : List (List ℕ)) (s : List ℕ) → s ≡ made sc → AloneRead (alone_behind_r len sc out) o s r
