-- Blanks at the front, and the verdict by the two readers behind the index.
-- Assumes nothing.
use Rattle.std.specs.Prelude.{Option, None}
use mathlib.Core.Path.{◌≡◌, refl, ap, ◌∙◌}
use mathlib.Core.Bool.{Bool, true, false, not}
use mathlib.Core.List.{List, [], ◌∷◌}
use Prim.Native.Nat.{ℕ, ◌+◌, ◌<◌}
use native.Mathlib.Omega.{arith}
use lib.ListN.{length, get_or}
use Rattle.basics.specs.Choice.{pick}
use Rattle.basics.proofs.Choice.{pick_true, pick_false}
use Rattle.cycle_notation.specs.Piece.{number, blank, mark, PlacedPiece, digit_byte, cycle_pieces, without_offsets}
use Rattle.cycle_notation.specs.Form.{in_range}
use Rattle.cycle_notation.specs.Verdict.{Read}
use Rattle.cycle_notation.specs.Inner.Reader.{start, State, front, within_S, dead, read_all, read_outcome, is_dead, bad_index, either_read, verdict_of}
use Rattle.cycle_reading.specs.Inner.Hand.{pieces_left}
use Rattle.cycle_reading.specs.Inner.Alone.{Alone, fails, through, alone_of, either, died}
use Rattle.cycle_reading.specs.Inner.Front.{FrontSame, verdict_behind}
use Rattle.cycle_reading.proofs.Left.{mark_left}
use Rattle.cycle_reading.proofs.Both.{AloneSays, it_fails, it_reads, alone_says, lost_later, later}

pub front_more : (t : List ℕ) (at : ℕ) → FrontSame t at → at < length t → get_or t at 0 ≡ 32 → FrontSame t (at + 1)
unfolding read_all without_offsets died bad_index
front_more t at f l e = record {
  runs = λ semi. f.runs semi ∙ ap (λ (ps : List PlacedPiece). read_all semi front (without_offsets ps)) here;
  dies = λ semi len. f.dies semi len ∙ ap (λ (ps : List PlacedPiece). died semi front ps len) here;
  bad = f.bad ∙ ap (λ (ps : List PlacedPiece). bad_index (without_offsets ps)) here;
}
  where
    here : pieces_left t at ≡ record { at = at; piece = blank } ∷ pieces_left t (at + 1)
    here =
        mark_left t at l (ap digit_byte e)
        ∙ ap (λ (b : ℕ). record { at = at; piece = mark b } ∷ pieces_left t (at + 1)) e

-- the index n stands at `at`, and the rest from `to` on
module _ (t : List ℕ) (at to n : ℕ) (f : FrontSame t at) (here : pieces_left t at ≡ record { at = at; piece = number n } ∷ pieces_left t to)
    (i : in_range n ≡ true) where
  behind_run_lem : (semi : Bool) → read_all semi front (without_offsets (pieces_left t 0))
      ≡ read_all semi (within_S n start [] [] []) (without_offsets (pieces_left t to))
  unfolding read_all without_offsets
  behind_run_lem semi =
      f.runs semi ∙ ap (λ (ps : List PlacedPiece). read_all semi front (without_offsets ps)) here
      ∙ ap (λ (q : State). read_all semi q (without_offsets (pieces_left t to))) (pick_true (in_range n) (within_S n start [] [] []) dead i)

  behind_died : (semi : Bool) (len : ℕ) → died semi front (pieces_left t 0) len ≡ died semi (within_S n start [] [] []) (pieces_left t to) len
  unfolding died
  behind_died semi len =
      f.dies semi len ∙ ap (λ (ps : List PlacedPiece). died semi front ps len) here
      ∙ ap (λ (q : State). pick (is_dead q) at (died semi q (pieces_left t to) len)) (pick_true (in_range n) (within_S n start [] [] []) dead i)

  behind_good : bad_index (without_offsets (pieces_left t 0)) ≡ false
  unfolding without_offsets bad_index
  behind_good = f.bad ∙ ap (λ (ps : List PlacedPiece). bad_index (without_offsets ps)) here ∙ ap not i

  pub verdict_alone : verdict_of t ≡ verdict_behind n (either (alone_of true n t to) (alone_of false n t to))
  unfolding verdict_of cycle_pieces pieces_left
  verdict_alone =
      pick_false (bad_index (without_offsets (pieces_left t 0))) _ _ behind_good
      ∙ ap (either_read (read_outcome (read_all true front (without_offsets (pieces_left t 0)))) (read_outcome (read_all false front (without_offsets (pieces_left t 0)))))
      (lost_later t (pieces_left t 0) 0 front front refl (omega arith))
      ∙ go (alone_of true n t to) (alone_says true n t to) (alone_of false n t to) (alone_says false n t to)
    where
      go : (a : Alone) → AloneSays true n (length t) (within_S n start [] [] []) (pieces_left t to) a
          → (b : Alone) → AloneSays false n (length t) (within_S n start [] [] []) (pieces_left t to) b
          → either_read (read_outcome (read_all true front (without_offsets (pieces_left t 0)))) (read_outcome (read_all false front (without_offsets (pieces_left t 0))))
          (later (died true front (pieces_left t 0) (length t)) (died false front (pieces_left t 0) (length t))) ≡ verdict_behind n (either a b)
      go (through sc rc) (it_reads o) b s =
          ap (λ (x : Option Read). either_read x (read_outcome (read_all false front (without_offsets (pieces_left t 0))))
          (later (died true front (pieces_left t 0) (length t)) (died false front (pieces_left t 0) (length t))))
          (ap read_outcome (behind_run_lem true) ∙ o)
      go (fails x) (it_fails o d) (through sc rc) (it_reads q) =
          ap (λ (y : Option Read). either_read y (read_outcome (read_all false front (without_offsets (pieces_left t 0))))
          (later (died true front (pieces_left t 0) (length t)) (died false front (pieces_left t 0) (length t))))
          (ap read_outcome (behind_run_lem true) ∙ o)
          ∙ ap (λ (y : Option Read). either_read None y (later (died true front (pieces_left t 0) (length t)) (died false front (pieces_left t 0) (length t))))
          (ap read_outcome (behind_run_lem false) ∙ q)
      go (fails x) (it_fails o d) (fails y) (it_fails p e) =
          ap (λ (z : Option Read). either_read z (read_outcome (read_all false front (without_offsets (pieces_left t 0))))
          (later (died true front (pieces_left t 0) (length t)) (died false front (pieces_left t 0) (length t))))
          (ap read_outcome (behind_run_lem true) ∙ o)
          ∙ ap (λ (z : Option Read). either_read None z (later (died true front (pieces_left t 0) (length t)) (died false front (pieces_left t 0) (length t))))
          (ap read_outcome (behind_run_lem false) ∙ p)
          ∙ ap (λ (k : ℕ). either_read None None (later k (died false front (pieces_left t 0) (length t)))) (behind_died true (length t) ∙ d)
          ∙ ap (λ (k : ℕ). either_read None None (later x k)) (behind_died false (length t) ∙ e)
