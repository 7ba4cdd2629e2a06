-- A text has one verdict: what it means allows no other.
--     which           the reading with a semicolon is that of the texts that have one
--     right_only      a text is right with one index and one pair of lists of cycles
--     wrong_only      a text leaves the form at one place
--     verdict_only    a verdict that means what it should is the readers'
-- Assumes nothing.
use Rattle.std.specs.Prelude.{Option, None, Some}
use mathlib.Core.Path.{◌≡◌, refl, sym, ap, subst, ◌∙◌}
use mathlib.Core.Bool.{Bool, true, false}
use mathlib.Core.List.{List, [], ◌∷◌, ◌++◌, append-nil, append_assoc}
use Prim.Native.Nat.{ℕ}
use lib.ListN.{length}
use Rattle.basics.specs.Choice.{pick}
use Rattle.basics.proofs.Choice.{clash}
use Rattle.cycle_notation.specs.Piece.{CyclePiece, number, blank, opening, closing, comma, semicolon, another, PlacedPiece, cycle_pieces, without_offsets}
use Rattle.cycle_notation.specs.Form
use Rattle.cycle_notation.specs.Form.{Blanks, here, past, More, last, further, Cycles, end, gap, cycle, Written, cycles, behind_s, Reading, in_range, Right}
use Rattle.cycle_notation.specs.Form.{Completes}
use Rattle.cycle_notation.specs.Place.{WrongAt, at_piece, stops_short}
use Rattle.cycle_notation.specs.Verdict.{Read, Verdict, reads, index_out, leaves, IndexOut, VerdictMeans, right, no_index, wrong}
use Rattle.cycle_notation.specs.Inner.Reader.{front, read_all, read_outcome, lost, bad_index, either_read, verdict_of}
use Rattle.cycle_notation.proofs.Whole.{accepted, right_of, read_as}
use Rattle.cycle_notation.proofs.Wrong.{bare_append, wrong_at, bad_behind, index_out_is}

-- ---- which reading

unfoldable pub has_semicolon : List CyclePiece → Bool
has_semicolon [] = false
has_semicolon (number x ∷ ps) = has_semicolon ps
has_semicolon (blank ∷ ps) = has_semicolon ps
has_semicolon (opening ∷ ps) = has_semicolon ps
has_semicolon (closing ∷ ps) = has_semicolon ps
has_semicolon (comma ∷ ps) = has_semicolon ps
has_semicolon (semicolon ∷ ps) = true
has_semicolon (another ∷ ps) = has_semicolon ps

over_blanks : {ps rest : List CyclePiece} → Blanks ps rest → has_semicolon ps ≡ has_semicolon rest
unfolding has_semicolon
over_blanks here = refl
over_blanks (past b) = over_blanks b

over_more : {ps rest : List CyclePiece} {xs : List ℕ} → More ps xs rest → has_semicolon ps ≡ has_semicolon rest
unfolding has_semicolon
over_more last = refl
over_more (further m) = over_more m

over_cycles : {ps rest : List CyclePiece} {cs : List (List ℕ)} → Cycles ps cs rest → has_semicolon ps ≡ has_semicolon rest
unfolding has_semicolon
over_cycles end = refl
over_cycles (gap c) = over_cycles c
over_cycles (cycle m c) = over_more m ∙ over_cycles c

over_written : {semi : Bool} {ps rest : List CyclePiece} {cs : List (List ℕ)} → Written semi ps cs rest → has_semicolon ps ≡ has_semicolon rest
unfolding has_semicolon
over_written (cycles h c) = over_cycles c
over_written (Form.identity a b) = over_blanks a ∙ over_blanks b

pub which : (semi : Bool) {ps : List CyclePiece} {n : ℕ} {sc rc : List (List ℕ)} → Reading semi ps n sc rc → has_semicolon ps ≡ semi
unfolding has_semicolon
which true g = over_blanks g.n_is ∙ over_written g.S_is
which false g = over_blanks g.n_is ∙ over_written g.S_is ∙ over_written g.R_is

-- a right text is read, by the reader that its semicolons choose
read_by : {ps : List CyclePiece} {n : ℕ} {sc rc : List (List ℕ)} → Right ps n sc rc → read_outcome (read_all (has_semicolon ps) front ps) ≡ Some (read_as n sc rc)
read_by {ps} {n} {sc} {rc} h = ap (λ (b : Bool). read_outcome (read_all b front ps)) (which h.semi h.reading) ∙ accepted ps n sc rc h

pub right_only : (ps : List CyclePiece) (r q : Read) → Right ps r.index r.of_s r.of_r → Right ps q.index q.of_s q.of_r → r ≡ q
right_only ps r q g h = same (sym (read_by g) ∙ read_by h)
  where
    same : {a b : Read} → Some a ≡ Some b → a ≡ b
    same e = cc

-- ---- one place

pub shorter : (ps qs : List CyclePiece) → Completes (ps ++ qs) → Completes ps
shorter ps qs c = record {
  ending = qs ++ c.ending;
  n = c.n;
  sc = c.sc;
  rc = c.rc;
  right = subst (λ (l : List CyclePiece). Right l c.n c.sc c.rc) (append_assoc ps qs c.ending) c.right;
}

module _ {A : Type 0} where
  head_same : {x y : A} {l m : List A} → x ∷ l ≡ y ∷ m → x ≡ y
  head_same e = cc

  tail_same : {x y : A} {l m : List A} → x ∷ l ≡ y ∷ m → l ≡ m
  tail_same e = cc

longer : (pre : List CyclePiece) (x : CyclePiece) (l : List CyclePiece) → pre ++ (x ∷ l) ≡ (pre ++ (x ∷ [])) ++ l
longer pre x l = sym (append_assoc pre (x ∷ []) l)

same_place : (a b : List PlacedPiece) (pre : List CyclePiece) (p q : PlacedPiece) (l m : List PlacedPiece) → a ++ (p ∷ l) ≡ b ++ (q ∷ m)
    → Completes (pre ++ without_offsets a) → Completes (pre ++ without_offsets b) → ¬ Completes (pre ++ (without_offsets a ++ (p.piece ∷ [])))
    → ¬ Completes (pre ++ (without_offsets b ++ (q.piece ∷ [])))
    → p.at ≡ q.at
unfolding without_offsets
same_place [] [] pre p q l m e ca cb na nb = ap (λ (z : PlacedPiece). z.at) (head_same e)
same_place [] (y ∷ b) pre p q l m e ca cb na nb =
    let z : y.piece ≡ p.piece = ap (λ (k : PlacedPiece). k.piece) (sym (head_same e)) in
    absurd (na (subst (λ (k : CyclePiece). Completes (pre ++ (k ∷ []))) z
    (shorter (pre ++ (y.piece ∷ [])) (without_offsets b) (subst (λ (k : List CyclePiece). Completes k) (longer pre y.piece (without_offsets b)) cb))))
same_place (x ∷ a) [] pre p q l m e ca cb na nb =
    let z : x.piece ≡ q.piece = ap (λ (k : PlacedPiece). k.piece) (head_same e) in
    absurd (nb (subst (λ (k : CyclePiece). Completes (pre ++ (k ∷ []))) z
    (shorter (pre ++ (x.piece ∷ [])) (without_offsets a) (subst (λ (k : List CyclePiece). Completes k) (longer pre x.piece (without_offsets a)) ca))))
same_place (x ∷ a) (y ∷ b) pre p q l m e ca cb na nb =
    let z : y.piece ≡ x.piece = ap (λ (k : PlacedPiece). k.piece) (sym (head_same e)) in
    let go : (k : List CyclePiece) → pre ++ (y.piece ∷ k) ≡ (pre ++ (x.piece ∷ [])) ++ k = λ k. ap (λ (w : CyclePiece). pre ++ (w ∷ k)) z
    ∙ longer pre x.piece k in
    same_place a b (pre ++ (x.piece ∷ [])) p q l m (tail_same e)
    (subst (λ (k : List CyclePiece). Completes k) (longer pre x.piece (without_offsets a)) ca)
    (subst (λ (k : List CyclePiece). Completes k) (go (without_offsets b)) cb)
    (λ c. na (subst (λ (k : List CyclePiece). Completes k) (sym (longer pre x.piece (without_offsets a ++ (p.piece ∷ [])))) c))
    (λ c. nb (subst (λ (k : List CyclePiece). Completes k) (sym (go (without_offsets b ++ (q.piece ∷ [])))) c))

module _ (t : List ℕ) where
  -- what can be completed to its end has no piece that spoils it
  not_at : (before : List PlacedPiece) (p : PlacedPiece) (behind : List PlacedPiece) → cycle_pieces t ≡ before ++ (p ∷ behind)
      → Completes (without_offsets (cycle_pieces t))
      → Completes (without_offsets before ++ (p.piece ∷ []))
  unfolding without_offsets
  not_at before p behind e c =
      shorter (without_offsets before ++ (p.piece ∷ [])) (without_offsets behind)
      (subst (λ (k : List CyclePiece). Completes k)
      (ap without_offsets e ∙ bare_append before (p ∷ behind) ∙ longer (without_offsets before) p.piece (without_offsets behind)) c)

  pub wrong_only : (x y : ℕ) → WrongAt t x → WrongAt t y → x ≡ y
  wrong_only x y (at_piece a p l e ca na) (at_piece b q m f cb nb) = same_place a b [] p q l m (sym e ∙ f) ca cb na nb
  wrong_only x y (at_piece a p l e ca na) (stops_short c h) = absurd (na (not_at a p l e c))
  wrong_only x y (stops_short c h) (at_piece b q m f cb nb) = absurd (nb (not_at b q m f c))
  wrong_only x y (stops_short c h) (stops_short d k) = refl

  -- a right text leaves the form nowhere
  right_not_wrong : (n : ℕ) (sc rc : List (List ℕ)) → Right (without_offsets (cycle_pieces t)) n sc rc → (x : ℕ) → ¬ WrongAt t x
  right_not_wrong n sc rc h x (at_piece a p l e ca na) = na (not_at a p l e (record {
    ending = [];
    n = n;
    sc = sc;
    rc = rc;
    right = subst (λ (k : List CyclePiece). Right k n sc rc) (sym (append-nil (without_offsets (cycle_pieces t)))) h;
  }))
  right_not_wrong n sc rc h x (stops_short c k) = k n sc rc h

  index_good : (n : ℕ) (sc rc : List (List ℕ)) → Right (without_offsets (cycle_pieces t)) n sc rc → ¬ IndexOut (without_offsets (cycle_pieces t))
  index_good n sc rc h i = go h.semi h.reading
    where
      two : {ps a b : List CyclePiece} (n m : ℕ) → Blanks ps (number n ∷ a) → Blanks ps (number m ∷ b) → n ≡ m
      two n m here here = refl
      two n m (past b) (past c) = two n m b c

      go : (semi : Bool) → Reading semi (without_offsets (cycle_pieces t)) n sc rc → ⊥
      go semi g = clash h.index (ap in_range (two n i.n g.n_is i.n_is) ∙ i.out)

  -- ---- the verdict

  module _ (good : ¬ IndexOut (without_offsets (cycle_pieces t))) where
    read_one : (v : Verdict) → VerdictMeans t v → (q : Read) → Right (without_offsets (cycle_pieces t)) q.index q.of_s q.of_r → v ≡ reads q
    read_one v (right r h) q k = ap reads (right_only (without_offsets (cycle_pieces t)) r q h k)
    read_one v (no_index i) q k = absurd (good i)
    read_one v (wrong p i w) q k = absurd (right_not_wrong q.index q.of_s q.of_r k p w)

    lost_one : (v : Verdict) → VerdictMeans t v → (place : ℕ) → WrongAt t place → v ≡ leaves place
    lost_one v (right r h) place w = absurd (right_not_wrong r.index r.of_s r.of_r h place w)
    lost_one v (no_index i) place w = absurd (good i)
    lost_one v (wrong p i u) place w = ap leaves (wrong_only p place u w)

    by_readers : (v : Verdict) → VerdictMeans t v
        → (a : Option Read) → read_outcome (read_all true front (without_offsets (cycle_pieces t))) ≡ a → (b : Option Read)
        → read_outcome (read_all false front (without_offsets (cycle_pieces t))) ≡ b
        → v ≡ either_read a b (lost front front (cycle_pieces t) (length t))
    by_readers v m (Some q) ea b eb = read_one v m q (right_of q true (without_offsets (cycle_pieces t)) ea)
    by_readers v m None ea (Some q) eb = read_one v m q (right_of q false (without_offsets (cycle_pieces t)) eb)
    by_readers v m None ea None eb = lost_one v m (lost front front (cycle_pieces t) (length t)) (wrong_at t ea eb)

  out_now : (v : Verdict) → VerdictMeans t v → IndexOut (without_offsets (cycle_pieces t)) → v ≡ index_out
  out_now v (right r h) i = absurd (index_good r.index r.of_s r.of_r h i)
  out_now v (no_index j) i = refl
  out_now v (wrong p j w) i = absurd (j i)

  decided : (i : Bool) → bad_index (without_offsets (cycle_pieces t)) ≡ i → verdict_of t ≡ pick i index_out
      (either_read (read_outcome (read_all true front (without_offsets (cycle_pieces t)))) (read_outcome (read_all false front (without_offsets (cycle_pieces t))))
      (lost front front (cycle_pieces t) (length t)))
  unfolding verdict_of
  decided i e = ap (λ (b : Bool). pick b index_out
      (either_read (read_outcome (read_all true front (without_offsets (cycle_pieces t)))) (read_outcome (read_all false front (without_offsets (cycle_pieces t))))
      (lost front front (cycle_pieces t) (length t)))) e

  pub verdict_only : (v : Verdict) → VerdictMeans t v → v ≡ verdict_of t
  verdict_only v m = go (bad_index (without_offsets (cycle_pieces t))) refl
    where
      go : (i : Bool) → bad_index (without_offsets (cycle_pieces t)) ≡ i → v ≡ verdict_of t
      go true e = out_now v m (index_out_is (without_offsets (cycle_pieces t)) e) ∙ sym (decided true e)
      go false e =
          by_readers (λ i. clash (bad_behind i.n i.behind i.out i.n_is) e) v m
          (read_outcome (read_all true front (without_offsets (cycle_pieces t)))) refl (read_outcome (read_all false front (without_offsets (cycle_pieces t)))) refl
          ∙ sym (decided false e)
