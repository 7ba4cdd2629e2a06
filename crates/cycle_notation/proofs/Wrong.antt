-- The place where both readers are lost is the one where the text leaves the form, and what is said of a text means what it should.
-- Assumes nothing.
use Rattle.std.specs.Prelude.{Option, None, Some}
use mathlib.Core.Path.{◌≡◌, refl, sym, ap, subst, ◌∙◌}
use mathlib.Core.Logic.{◌⊎◌, inl, inr}
use mathlib.Core.Bool.{Bool, true, false, not, ◌&&◌}
use mathlib.Core.List.{List, [], ◌∷◌, ◌++◌, append-nil, append_assoc}
use Prim.Native.Nat.{ℕ}
use lib.ListN.{length}
use Rattle.basics.specs.Choice.{pick}
use Rattle.basics.proofs.Choice.{pick_true, pick_false, and_left, and_right, clash}
use Rattle.cycle_notation.specs.Piece.{CyclePiece, number, blank, opening, closing, comma, semicolon, another, PlacedPiece, cycle_pieces, without_offsets}
use Rattle.cycle_notation.specs.Form.{Blanks, here, past, in_range, Right, Completes}
use Rattle.cycle_notation.specs.Place.{WrongAt, at_piece, stops_short}
use Rattle.cycle_notation.specs.Verdict.{Read, index_out, IndexOut, VerdictMeans, right, no_index, wrong}
use Rattle.cycle_notation.specs.Inner.Reader.{State, front, read_piece, read_all, read_outcome, is_dead, lost, bad_index, either_read, verdict_of}
use Rattle.cycle_notation.proofs.Points.{no_read}
use Rattle.cycle_notation.proofs.Whole.{accepted, right_of, read_as}
use Rattle.cycle_notation.proofs.Alive.{run_append, alive_completes, completes_alive}

pub bare_append : (ps qs : List PlacedPiece) → without_offsets (ps ++ qs) ≡ without_offsets ps ++ without_offsets qs
unfolding without_offsets
bare_append [] qs = refl
bare_append (p ∷ ps) qs = ap (λ (l : List CyclePiece). p.piece ∷ l) (bare_append ps qs)

one_more : (semi : Bool) (before : List PlacedPiece) (p : PlacedPiece) → read_all semi front (without_offsets before ++ (p.piece ∷ []))
    ≡ read_piece semi (read_all semi front (without_offsets before)) p.piece
unfolding read_all
one_more semi before p = run_append semi front (without_offsets before) (p.piece ∷ [])

alive_either : (a b : Bool) → (a && b) ≡ false → (a ≡ false) ⊎ (b ≡ false)
alive_either true b e = inr e
alive_either false b e = inl refl

alive_then : (ps : List CyclePiece) → (is_dead (read_all true front ps) && is_dead (read_all false front ps)) ≡ false → Completes ps
alive_then ps h = go (alive_either _ _ h)
  where
    go : (is_dead (read_all true front ps) ≡ false) ⊎ (is_dead (read_all false front ps) ≡ false) → Completes ps
    go (inl e) = alive_completes true ps e
    go (inr e) = alive_completes false ps e

module _ (t : List ℕ)
    (not_A : read_outcome (read_all true front (without_offsets (cycle_pieces t))) ≡ None)
    (not_B : read_outcome (read_all false front (without_offsets (cycle_pieces t))) ≡ None) where
  never_right : (n : ℕ) (sc rc : List (List ℕ)) → ¬ Right (without_offsets (cycle_pieces t)) n sc rc
  never_right n sc rc h = go h.semi (accepted (without_offsets (cycle_pieces t)) n sc rc h)
    where
      go : (semi : Bool) → read_outcome (read_all semi front (without_offsets (cycle_pieces t))) ≡ Some (read_as n sc rc) → ⊥
      go true e = no_read (sym not_A ∙ e)
      go false e = no_read (sym not_B ∙ e)

  lost_wrong : (ps before : List PlacedPiece) (a b : State) → cycle_pieces t ≡ before ++ ps → read_all true front (without_offsets before) ≡ a
      → read_all false front (without_offsets before) ≡ b
      → (is_dead a && is_dead b) ≡ false → WrongAt t (lost a b ps (length t))
  unfolding lost without_offsets
  lost_wrong [] before a b e ea eb h =
      let z : before ≡ cycle_pieces t = sym (e ∙ append-nil before) in
      stops_short
      (alive_then (without_offsets (cycle_pieces t))
      (subst (λ (l : List PlacedPiece). (is_dead (read_all true front (without_offsets l)) && is_dead (read_all false front (without_offsets l))) ≡ false) z
      (rw (ea, eb) h)))
      never_right
  lost_wrong (p ∷ ps) before a b e ea eb h =
      go (is_dead a' && is_dead b') refl (λ k. lost_wrong ps (before ++ (p ∷ [])) a' b' (e ∙ sym (append_assoc before (p ∷ []) ps)) ra rb k)
    where
      a' : State
      a' = read_piece true a p.piece

      b' : State
      b' = read_piece false b p.piece

      behind_it : without_offsets (before ++ (p ∷ [])) ≡ without_offsets before ++ (p.piece ∷ [])
      behind_it = bare_append before (p ∷ [])

      na : read_all true front (without_offsets before ++ (p.piece ∷ [])) ≡ read_piece true a p.piece
      na = one_more true before p ∙ ap (λ (q : State). read_piece true q p.piece) ea

      nb : read_all false front (without_offsets before ++ (p.piece ∷ [])) ≡ read_piece false b p.piece
      nb = one_more false before p ∙ ap (λ (q : State). read_piece false q p.piece) eb

      ra : read_all true front (without_offsets (before ++ (p ∷ []))) ≡ read_piece true a p.piece
      ra = ap (read_all true front) behind_it ∙ na

      rb : read_all false front (without_offsets (before ++ (p ∷ []))) ≡ read_piece false b p.piece
      rb = ap (read_all false front) behind_it ∙ nb

      go : (d : Bool) → (is_dead (read_piece true a p.piece) && is_dead (read_piece false b p.piece)) ≡ d
          → ((is_dead (read_piece true a p.piece) && is_dead (read_piece false b p.piece)) ≡ false
          → WrongAt t (lost (read_piece true a p.piece) (read_piece false b p.piece) ps (length t)))
          → WrongAt t (lost a b (p ∷ ps) (length t))
      go true f ih =
          subst (λ (k : ℕ). WrongAt t k) (sym (pick_true (is_dead (read_piece true a p.piece) && is_dead (read_piece false b p.piece)) p.at _ f))
          (at_piece before p ps e (alive_then (without_offsets before) (rw (ea, eb) h))
          (completes_alive (without_offsets before ++ (p.piece ∷ [])) (ap is_dead na ∙ and_left _ _ f)
          (ap is_dead nb ∙ and_right (is_dead (read_piece true a p.piece)) _ f)))
      go false f ih =
          subst (λ (k : ℕ). WrongAt t k) (sym (pick_false (is_dead (read_piece true a p.piece) && is_dead (read_piece false b p.piece)) p.at _ f)) (ih f)

  pub wrong_at : WrongAt t (lost front front (cycle_pieces t) (length t))
  unfolding read_all without_offsets
  wrong_at = lost_wrong (cycle_pieces t) [] front front refl refl refl refl

-- ---- the index

pub index_out_is : (ps : List CyclePiece) → bad_index ps ≡ true → IndexOut ps
unfolding bad_index
index_out_is [] e = clash e refl
index_out_is (number n ∷ ps) e = record { n = n; behind = ps; n_is = here; out = not-true (in_range n) e }
  where
    not-true : (b : Bool) → not b ≡ true → b ≡ false
    not-true true e = sym e
    not-true false e = refl
index_out_is (blank ∷ ps) e = let i = index_out_is ps e in record { n = i.n; behind = i.behind; n_is = past i.n_is; out = i.out }
index_out_is (opening ∷ ps) e = clash e refl
index_out_is (closing ∷ ps) e = clash e refl
index_out_is (comma ∷ ps) e = clash e refl
index_out_is (semicolon ∷ ps) e = clash e refl
index_out_is (another ∷ ps) e = clash e refl

pub bad_behind : {ps : List CyclePiece} (n : ℕ) (behind : List CyclePiece) → in_range n ≡ false → Blanks ps (number n ∷ behind) → bad_index ps ≡ true
unfolding bad_index
bad_behind n behind e here = ap not e
bad_behind n behind e (past b) = bad_behind n behind e b

index_in : (ps : List CyclePiece) → bad_index ps ≡ false → ¬ IndexOut ps
index_in ps e i = clash (bad_behind i.n i.behind i.out i.n_is) e

-- ---- what is said of a text

pub verdict_means : (t : List ℕ) → VerdictMeans t (verdict_of t)
unfolding verdict_of
verdict_means t = go (bad_index (without_offsets (cycle_pieces t))) refl (read_outcome (read_all true front (without_offsets (cycle_pieces t)))) refl
    (read_outcome (read_all false front (without_offsets (cycle_pieces t)))) refl
  where
    place : ℕ
    place = lost front front (cycle_pieces t) (length t)

    go : (i : Bool) → bad_index (without_offsets (cycle_pieces t)) ≡ i
        → (a : Option Read) → read_outcome (read_all true front (without_offsets (cycle_pieces t))) ≡ a → (b : Option Read)
        → read_outcome (read_all false front (without_offsets (cycle_pieces t))) ≡ b
        → VerdictMeans t (pick i index_out (either_read a b (lost front front (cycle_pieces t) (length t))))
    go true e a ea b eb = no_index (index_out_is (without_offsets (cycle_pieces t)) e)
    go false e (Some r) ea b eb = right r (right_of r true (without_offsets (cycle_pieces t)) ea)
    go false e None ea (Some r) eb = right r (right_of r false (without_offsets (cycle_pieces t)) eb)
    go false e None ea None eb = wrong (lost front front (cycle_pieces t) (length t)) (index_in (without_offsets (cycle_pieces t)) e) (wrong_at t ea eb)
