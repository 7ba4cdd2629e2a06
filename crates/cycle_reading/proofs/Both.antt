-- One reader alone, through S and R, and the two together: the place where both are lost is the later of their two.
-- Assumes nothing.
use Rattle.std.specs.Prelude.{None, Some}
use mathlib.Core.Path.{◌≡◌, refl, sym, ap, subst, ◌∙◌}
use mathlib.Core.Bool.{Bool, true, false, ◌&&◌}
use mathlib.Core.List.{List, [], ◌∷◌}
use Prim.Native.Nat.{ℕ, ◌+◌, ◌≤◌}
use native.Mathlib.Omega.{arith}
use native.Mathlib.Decide.{dec_lt}
use lib.Dec.{ltb}
use lib.ListN.{length}
use borrow.Author.Tests.{lt-ltb, le-ltb}
use Rattle.basics.specs.Choice.{pick}
use Rattle.basics.proofs.Choice.{pick_true, pick_false}
use Rattle.cycle_notation.specs.Piece.{PlacedPiece, without_offsets}
use Rattle.cycle_notation.specs.Inner.Reader.{Phase, start, opened, State, within_S, within_R, dead, begin_r, read_piece, read_all, read_outcome, is_dead, may_end, lost}
use Rattle.cycle_notation.proofs.Whole.{law_S, law_R, read_as}
use Rattle.cycle_notation.proofs.Back.{run_dead}
use Rattle.cycle_notation.proofs.Alive.{dead_is}
use Rattle.cycle_reading.specs.Inner.Phases.{first_of_r}
use Rattle.cycle_reading.specs.Inner.Hand.{pieces_left}
use Rattle.cycle_reading.specs.Inner.PartRun.{PartOut, part_run, phase_of}
use Rattle.cycle_reading.specs.Inner.Alone.{Alone, fails, through, alone_behind_r, alone_behind_s, alone_of, died}
use Rattle.cycle_reading.proofs.Through.{Next, next_of, Says, says_lost, says_passed, says_ended, says}

-- ---- one reader

begin_same : (semi : Bool) → pick semi start opened ≡ phase_of (first_of_r semi)
begin_same true = refl
begin_same false = refl

pub data AloneSays (semi : Bool) (n : ℕ) (len : ℕ) (q : State) (ps : List PlacedPiece) : Alone → Type 0 where
  it_fails : {at : ℕ} → read_outcome (read_all semi q (without_offsets ps)) ≡ None → died semi q ps len ≡ at → AloneSays semi n len q ps (fails at)
  it_reads : {sc rc : List (List ℕ)} → read_outcome (read_all semi q (without_offsets ps)) ≡ Some (read_as n sc rc) → AloneSays semi n len q ps (through sc rc)

module _ (semi : Bool) (n : ℕ) (t : List ℕ) where
  live_S : (ph : Phase) (seen cur : List ℕ) (done : List (List ℕ)) → is_dead (within_S n ph seen cur done) ≡ false
  live_S ph seen cur done = refl

  live_R : (sc : List (List ℕ)) (ph : Phase) (seen cur : List ℕ) (done : List (List ℕ)) → is_dead (within_R n sc ph seen cur done) ≡ false
  live_R sc ph seen cur done = refl

  SaysS : State → List PlacedPiece → PartOut → Type 0
  SaysS q ps out = Says semi n (within_S n) (begin_r semi n) (law_S semi n) live_S t (length t) q ps out

  SaysR : List (List ℕ) → State → List PlacedPiece → PartOut → Type 0
  SaysR sc q ps out = Says semi n (within_R n sc) (λ cs. dead) (law_R semi n sc) (live_R sc) t (length t) q ps out

  from_R : (sc : List (List ℕ)) (q : State) (ps : List PlacedPiece) (out : PartOut) → SaysR sc q ps out
      → AloneSays semi n (length t) q ps (alone_behind_r (length t) sc out)
  unfolding SaysR
  from_R sc q ps out (says_lost r d) = it_fails (ap read_outcome r) d
  from_R sc q ps out (says_passed {at} r d) = it_fails (ap read_outcome (r ∙ run_dead semi (without_offsets (pieces_left t (at + 1))))) d
  from_R sc q ps out (says_ended {b} {done} ph seen cur r w d) = go b w
    where
      out_is : read_outcome (read_all semi q (without_offsets ps)) ≡ pick (may_end ph) (Some (read_as n sc done)) None
      out_is = ap read_outcome r

      go : (b : Bool) → may_end ph ≡ b → AloneSays semi n (length t) q ps (pick b (through sc done) (fails (length t)))
      go true w = it_reads (out_is ∙ pick_true (may_end ph) _ _ w)
      go false w = it_fails (out_is ∙ pick_false (may_end ph) _ _ w) d

  from_S : (q : State) (ps : List PlacedPiece) (out : PartOut) → SaysS q ps out → AloneSays semi n (length t) q ps (alone_behind_s semi n t out)
  unfolding SaysS SaysR
  from_S q ps out (says_lost r d) = it_fails (ap read_outcome r) d
  from_S q ps out (says_ended ph seen cur r w d) = it_fails (ap read_outcome r) d
  from_S q ps out (says_passed {at} {done = sc} r d) =
      carried (alone_behind_r (length t) sc (part_run semi n (phase_of (first_of_r semi)) [] [] [] (pieces_left t (at + 1))))
      (subst (λ (ph : Phase). AloneSays semi n (length t) (within_R n sc ph [] [] []) (pieces_left t (at + 1))
      (alone_behind_r (length t) sc (part_run semi n (phase_of (first_of_r semi)) [] [] [] (pieces_left t (at + 1))))) (sym (begin_same semi))
      (from_R sc (within_R n sc (phase_of (first_of_r semi)) [] [] []) (pieces_left t (at + 1)) (part_run semi n (phase_of (first_of_r semi)) [] [] [] (pieces_left t (at + 1)))
      (says semi n (within_R n sc) (λ cs. dead) (law_R semi n sc) (live_R sc) t (length t) (pieces_left t (at + 1)) (at + 1) refl
      (phase_of (first_of_r semi)) [] [] [])))
    where
      carried : (x : Alone) → AloneSays semi n (length t) (begin_r semi n sc) (pieces_left t (at + 1)) x → AloneSays semi n (length t) q ps x
      carried x (it_fails o e) = it_fails (ap read_outcome r ∙ o) (d ∙ e)
      carried x (it_reads o) = it_reads (ap read_outcome r ∙ o)

  pub alone_says : (from : ℕ) → AloneSays semi n (length t) (within_S n start [] [] []) (pieces_left t from) (alone_of semi n t from)
  unfolding SaysS
  alone_says from =
      from_S (within_S n start [] [] []) (pieces_left t from) (part_run semi n start [] [] [] (pieces_left t from))
      (says semi n (within_S n) (begin_r semi n) (law_S semi n) live_S t (length t) (pieces_left t from) from refl start [] [] [])

-- ---- both readers

abbrev pub later : ℕ → ℕ → ℕ
later x y = pick (ltb x y) y x

later_right : (x y : ℕ) → x ≤ y → later x y ≡ y
later_right x y h = elim (dec_lt x y) [
  | yes l ↦ pick_true (ltb x y) y x (lt-ltb x y l)
  | no l ↦ pick_false (ltb x y) y x (le-ltb x y (omega arith)) ∙ omega arith
]

pub later_left : (x y : ℕ) → y ≤ x → later x y ≡ x
later_left x y h = pick_false (ltb x y) y x (le-ltb x y h)

module _ (t : List ℕ) where
  -- no reader is lost before what it reads
  died_low : (semi : Bool) (ps : List PlacedPiece) (o : ℕ) (q : State) → pieces_left t o ≡ ps → o ≤ length t → o ≤ died semi q ps (length t)
  unfolding died
  died_low semi [] o q e h = h
  died_low semi (p ∷ ps) o q e h =
      let x = next_of t o p ps e in
      go (is_dead (read_piece semi q p.piece)) (let k = died_low semi ps x.to (read_piece semi q p.piece) (sym x.rest) x.inside in
      omega (arith, x.onward)) (omega (arith, x.at_is))
    where
      go : (b : Bool) → o ≤ died semi (read_piece semi q p.piece) ps (length t) → o ≤ p.at
          → o ≤ pick b p.at (died semi (read_piece semi q p.piece) ps (length t))
      go true k l = l
      go false k l = k

  -- and a reader that is lost already is so at once
  dead_first : (semi other : Bool) (ps : List PlacedPiece) (o : ℕ) (q : State) → pieces_left t o ≡ ps → o ≤ length t
      → died semi dead ps (length t) ≤ died other q ps (length t)
  unfolding died
  dead_first semi other [] o q e h = omega arith
  dead_first semi other (p ∷ ps) o q e h =
      let x = next_of t o p ps e in
      let k = died_low other (p ∷ ps) o q e h in
      omega (arith, x.at_is, k)

  module _ (p : PlacedPiece) (ps : List PlacedPiece) (o : ℕ) (a b : State) (x : Next t o p ps) where
    early : (semi : Bool) (q : State) → p.at ≤ died semi q ps (length t)
    early semi q = let k = died_low semi ps x.to q (sym x.rest) x.inside in omega (arith, x.onward, x.at_is, k)

    cases : (i : Bool) → is_dead (read_piece true a p.piece) ≡ i → (j : Bool) → is_dead (read_piece false b p.piece) ≡ j
        → lost (read_piece true a p.piece) (read_piece false b p.piece) ps (length t)
        ≡ later (died true (read_piece true a p.piece) ps (length t)) (died false (read_piece false b p.piece) ps (length t))
        → pick (i && j) p.at (lost (read_piece true a p.piece) (read_piece false b p.piece) ps (length t))
        ≡ later (pick i p.at (died true (read_piece true a p.piece) ps (length t)))
        (pick j p.at (died false (read_piece false b p.piece) ps (length t)))
    cases true ei true ej rest = sym (later_left p.at p.at (omega arith))
    cases true ei false ej rest =
        rest
        ∙ ap (λ (q : State). later (died true q ps (length t)) (died false (read_piece false b p.piece) ps (length t)))
        (dead_is (read_piece true a p.piece) ei)
        ∙ later_right _ _ (dead_first true false ps x.to (read_piece false b p.piece) (sym x.rest) x.inside)
        ∙ sym (later_right p.at _ (early false (read_piece false b p.piece)))
    cases false ei true ej rest =
        rest
        ∙ ap (λ (q : State). later (died true (read_piece true a p.piece) ps (length t)) (died false q ps (length t)))
        (dead_is (read_piece false b p.piece) ej)
        ∙ later_left _ _ (dead_first false true ps x.to (read_piece true a p.piece) (sym x.rest) x.inside)
        ∙ sym (later_left _ p.at (early true (read_piece true a p.piece)))
    cases false ei false ej rest = rest

    either_lost : (i : Bool) → is_dead (read_piece true a p.piece) ≡ i → (j : Bool) → is_dead (read_piece false b p.piece) ≡ j
        → lost (read_piece true a p.piece) (read_piece false b p.piece) ps (length t)
        ≡ later (died true (read_piece true a p.piece) ps (length t)) (died false (read_piece false b p.piece) ps (length t))
        → lost a b (p ∷ ps) (length t) ≡ later (died true a (p ∷ ps) (length t)) (died false b (p ∷ ps) (length t))
    unfolding lost died
    either_lost i ei j ej rest =
        ap (λ (z : Bool). pick (z && is_dead (read_piece false b p.piece)) p.at
        (lost (read_piece true a p.piece) (read_piece false b p.piece) ps (length t))) ei
        ∙ ap (λ (z : Bool). pick (i && z) p.at (lost (read_piece true a p.piece) (read_piece false b p.piece) ps (length t))) ej
        ∙ cases i ei j ej rest
        ∙ sym (ap (λ (z : Bool). later (pick z p.at (died true (read_piece true a p.piece) ps (length t)))
        (pick (is_dead (read_piece false b p.piece)) p.at (died false (read_piece false b p.piece) ps (length t)))) ei
        ∙ ap (λ (z : Bool). later (pick i p.at (died true (read_piece true a p.piece) ps (length t)))
        (pick z p.at (died false (read_piece false b p.piece) ps (length t)))) ej)

  pub lost_later : (ps : List PlacedPiece) (o : ℕ) (a b : State) → pieces_left t o ≡ ps → o ≤ length t
      → lost a b ps (length t) ≡ later (died true a ps (length t)) (died false b ps (length t))
  unfolding lost died
  lost_later [] o a b e h = sym (later_left (length t) (length t) (omega arith))
  lost_later (p ∷ ps) o a b e h =
      let x = next_of t o p ps e in
      either_lost p ps o a b x (is_dead (read_piece true a p.piece)) refl (is_dead (read_piece false b p.piece)) refl
      (lost_later ps x.to (read_piece true a p.piece) (read_piece false b p.piece) (sym x.rest) x.inside)
