-- Blanks and the index at the front of a text.
--
--     FrontSame t at      up to the offset `at` the text t has blanks only: neither reader has moved, and the index is
--                         still to come
--     BlanksTo t at       and there is no further blank
--     verdict_behind n a  the verdict by what the readers say behind the index n
--     VerdictRead v o s r the code answers o for the verdict v, and s and r hold the tables of a text that is right
use Rattle.std.specs.Prelude.{◌≡◌, Bool, List, ℕ, ◌≤◌, ◌<◌, length, get_or, Ok, Err}
use Rattle.cycle_notation.specs.Piece.{without_offsets}
use Rattle.cycle_notation.specs.Verdict.{Verdict, reads, index_out, leaves}
use Rattle.cycle_notation.specs.Inner.Reader.{front, read_all, bad_index}
use Rattle.cycle_reading.specs.Inner.Hand.{pieces_left}
use Rattle.call.specs.Refusal.{Filled}
use Rattle.call.specs.declared.refusal.Refusal.TheVariants.{PointCount, BadCycles}
use Rattle.cycle_reading.specs.Inner.PartRun.{made}
use Rattle.cycle_reading.specs.Inner.Alone.{Alone, fails, through, died}

pub record FrontSame (t : List ℕ) (at : ℕ) : Type 0 where
  pub runs : (semi : Bool) → read_all semi front (without_offsets (pieces_left t 0))
      ≡ read_all semi front (without_offsets (pieces_left t at))
  pub dies : (semi : Bool) (len : ℕ) → died semi front (pieces_left t 0) len ≡ died semi front (pieces_left t at) len
  pub bad : bad_index (without_offsets (pieces_left t 0)) ≡ bad_index (without_offsets (pieces_left t at))

pub record BlanksTo (t : List ℕ) (at : ℕ) : Type 0 where
  pub same : FrontSame t at
  pub inside : at ≤ length t
  pub stops : at < length t → get_or t at 0 ≡ 32 → ⊥

abbrev pub verdict_behind : ℕ → Alone → Verdict
verdict_behind n (through sc rc) = reads (record { index = n; of_s = sc; of_r = rc })
verdict_behind n (fails place) = leaves place

abbrev pub answered : Verdict → Filled
answered (reads q) = Ok q.index
answered index_out = Err PointCount
answered (leaves place) = Err (BadCycles place)

abbrev pub KeptRead : Verdict → (s r : List ℕ) → Type 0
KeptRead (reads q) s r = (s ≡ made q.of_s) × (r ≡ made q.of_r)
KeptRead index_out s r = Unit {0}
KeptRead (leaves place) s r = Unit {0}

pub record VerdictRead (v : Verdict) (o : Filled) (s r : List ℕ) : Type 0 where
  pub returned : o ≡ answered v
  pub kept : KeptRead v s r
