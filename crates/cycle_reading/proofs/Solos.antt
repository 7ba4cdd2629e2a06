-- What the code says of one reader, by what it says of S and of R.
-- Assumes nothing.
use mathlib.Core.Path.{◌≡◌, refl, sym, subst, ◌∙◌}
use mathlib.Core.Bool.{Bool}
use mathlib.Core.List.{List, [], ◌∷◌}
use Prim.Native.Nat.{ℕ, ◌+◌, ◌<◌}
use native.Mathlib.Omega.{arith}
use lib.ListN.{length}
use Rattle.cycle_notation.specs.Piece.{PlacedPiece}
use Rattle.cycle_notation.specs.Inner.Reader.{Phase, start, PartTurn, on, over, stop, turn_of}
use Rattle.cycle_reading.specs.declared.PartEnd.{PartEnd}
use Rattle.cycle_reading.specs.declared.PartEnd.TheVariants as ending
use Rattle.std.specs.Prelude.{Result}
use Rattle.cycle_reading.specs.Inner.Phases.{first_of_r}
use Rattle.cycle_reading.specs.Inner.Hand.{pieces_left}
use Rattle.cycle_reading.specs.Inner.PartRun.{PartOut, lost, passed, ended, part_run, PartRead, run_from}
use Rattle.cycle_reading.specs.Inner.Alone.{Alone, alone_behind_r, alone_behind_s, AloneRead, SecondRead}
use Rattle.cycle_reading.proofs.Loop.{run_turn, run_after}
use Rattle.cycle_reading.proofs.Through.{Next, next_of}

clash : {X : Type 0} → ◌≡◌ {A = ℕ} 0 1 → X
clash e = absurd (omega arith)

-- the answer by the variant that the code found it to be
pub part_as : {out : PartOut} {o o' : PartEnd} {r : List ℕ} → o ≡ o' → PartRead out o r → PartRead out o' r
part_as e h = record { returned = sym e ∙ h.returned; kept = h.kept }

pub solo_as : {x : Alone} {o o' : Result (Unit {0}) ℕ} {s r : List ℕ} → o ≡ o' → AloneRead x o s r → AloneRead x o' s r
solo_as e h = record { returned = sym e ∙ h.returned; kept = h.kept }

-- ---- a permutation that was over was so within the text

module _ (semi : Bool) (n : ℕ) (t : List ℕ) where
  at_turn : (done : List (List ℕ)) (p : PlacedPiece) (ps : List PlacedPiece) (o : ℕ) → Next t o p ps
      → ((ph : Phase) (seen cur : List ℕ) (done : List (List ℕ)) (at : ℕ) (cs : List (List ℕ)) → part_run semi n ph seen cur done ps ≡ passed at cs
      → at < length t)
      → (u : PartTurn) (at : ℕ) (cs : List (List ℕ)) → run_after semi n done p.at ps u ≡ passed at cs → at < length t
  at_turn done p ps o x ih (on ph seen cur done') at cs e = ih ph seen cur done' at cs e
  at_turn done p ps o x ih over at cs e = let z : p.at ≡ at = passed_at e in omega (arith, x.at_is, x.onward, x.inside)
    where
      passed_at : {a b : ℕ} {c d : List (List ℕ)} → passed a c ≡ passed b d → a ≡ b
      passed_at e = cc
  at_turn done p ps o x ih stop at cs e = clash (cc)

  pub passed_in : (ps : List PlacedPiece) (o : ℕ) → pieces_left t o ≡ ps → (ph : Phase) (seen cur : List ℕ) (done : List (List ℕ)) (at : ℕ) (cs : List (List ℕ))
      → part_run semi n ph seen cur done ps ≡ passed at cs → at < length t
  unfolding part_run
  passed_in [] o e ph seen cur done at cs h = clash (cc)
  passed_in (p ∷ ps) o e ph seen cur done at cs h =
      let x = next_of t o p ps e in
      at_turn done p ps o x (passed_in ps x.to (sym x.rest)) (turn_of semi n seen cur done ph p.piece) at cs
      (sym (run_turn semi n ph seen cur done p ps (turn_of semi n seen cur done ph p.piece) refl) ∙ h)

-- ---- S and then R

module _ (semi : Bool) (n : ℕ) (t : List ℕ) (out : PartOut) (s : List ℕ) where
  over_same : {a b : ℕ} → ending.Over a ≡ ending.Over b → a ≡ b
  over_same e = cc

  pub alone_over : (at : ℕ) (o : Result (Unit {0}) ℕ) (r : List ℕ) → PartRead out (ending.Over at) s
      → SecondRead (run_from semi n (first_of_r semi) (pieces_left t (at + 1))) (length t) o r → AloneRead (alone_behind_s semi n t out) o s r
  alone_over at o r h k = go out h
    where
      go : (x : PartOut) → PartRead x (ending.Over at) s → AloneRead (alone_behind_s semi n t x) o s r
      go (passed a done) h =
          subst (λ (z : ℕ). AloneRead (alone_behind_r (length t) done (run_from semi n (first_of_r semi) (pieces_left t (z + 1)))) o s r)
          (over_same h.returned)
          (k.both done s h.kept)
      go (lost a) h = let q = h.returned in clash (cc)
      go (ended b done) h = let q = h.returned in clash (cc)

-- where the code goes on with R, there is text left
pub over_in : (semi : Bool) (n : ℕ) (t : List ℕ) (from at : ℕ) (s : List ℕ) → PartRead (part_run semi n start [] [] [] (pieces_left t from)) (ending.Over at) s
    → at < length t
over_in semi n t from at s h = go (part_run semi n start [] [] [] (pieces_left t from)) refl h
  where
    go : (x : PartOut) → part_run semi n start [] [] [] (pieces_left t from) ≡ x → PartRead x (ending.Over at) s → at < length t
    go (passed a cs) e h =
        let z : at ≡ a = over_same semi n t (passed a cs) s h.returned in
        omega (arith, passed_in semi n t (pieces_left t from) from refl start [] [] [] a cs e)
    go (lost a) e h = let q = h.returned in clash (cc)
    go (ended b done) e h = let q = h.returned in clash (cc)
