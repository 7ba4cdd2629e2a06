-- What is said of the whole pieces of a text holds for every text that begins with its bytes, where no ending helps.
--     Fate w v       the verdict v on the pieces of w: it is that of every text whose pieces begin so; or they can be completed
--     over_lost      no text has a number past 3,066
--     Sealed t v     the verdict of every text that begins with t is v, and it says 12, or 27 inside t
--     sealed_by_run  so it is where the run at the end of t says more than 3,066
-- Assumes nothing.
use mathlib.Core.Path.{◌≡◌, refl, sym, ap, subst, ◌∙◌}
use mathlib.Core.Logic.{◌⊎◌, inl, inr}
use mathlib.Core.Bool.{Bool, true, false, not, ◌&&◌}
use mathlib.Core.List.{List, [], ◌∷◌, ◌++◌, append-nil, append_assoc}
use Prim.Native.Nat.{ℕ, suc, ◌+◌, ◌≤◌, ◌<◌}
use native.Mathlib.Omega.{arith}
use lib.Dec.{leb}
use lib.ListN.{length, length-append}
use borrow.Author.Tests.{lt-leb}
use Rattle.basics.specs.Choice.{pick}
use Rattle.basics.proofs.Choice.{pick_false, clash}
use Rattle.numbering.specs.Find.{is_in}
use Rattle.cycle_notation.specs.Piece.{CyclePiece, number, blank, opening, closing, comma, semicolon, another, PlacedPiece, digit_byte, run_value}
use Rattle.cycle_notation.specs.Piece.{cycle_pieces_from, cycle_pieces, without_offsets}
use Rattle.cycle_notation.specs.Form.{Blanks, here, past, free, in_range, Right, Completes}
use Rattle.cycle_notation.specs.Place.{at_piece, stops_short}
use Rattle.cycle_notation.specs.Verdict.{Read, Verdict, reads, index_out, leaves, IndexOut, VerdictMeans, right, no_index, wrong}
use Rattle.cycle_notation.specs.Inner.Reader.{Phase, start, opened, empty, point, wanted, closed, PartTurn, on, over, stop, turn_of, State, front, within_S}
use Rattle.cycle_notation.specs.Inner.Reader.{within_R, dead, after, begin_r, read_piece, read_all, is_dead, bad_index, verdict_of}
use Rattle.cycle_notation.proofs.Alive.{run_append, alive_completes, completes_alive}
use Rattle.cycle_notation.proofs.Wrong.{bare_append, index_out_is, bad_behind}
use Rattle.cycle_notation.proofs.Only.{shorter, verdict_only}
use Rattle.cycle_reading.proofs.Left.{begins_number, goes_on, is_mark}
use Rattle.cycle_reading.proofs.Filling.{range_of}
use Rattle.cycle_texts.specs.Cut.{all_digits, without_run, last_run}
use Rattle.cycle_texts.proofs.CyclesRuns.{split_run, run_digits, all_head, pieces_split, grows}

abbrev pieces_in : List ℕ → List CyclePiece
pieces_in t = without_offsets (cycle_pieces t)

-- ---- places are inside the text

abbrev Below : ℕ → List PlacedPiece → Type 0
Below k [] = Unit {0}
Below k (p ∷ ps) = (p.at < k) × Below k ps

below_mid : (k : ℕ) (before : List PlacedPiece) (p : PlacedPiece) (behind : List PlacedPiece) → Below k (before ++ (p ∷ behind)) → p.at < k
below_mid k [] p behind h = h.0
below_mid k (x ∷ before) p behind h = below_mid k before p behind h.1

below_from : (t : List ℕ) (at : ℕ) (inside : Bool) → Below (at + length t) (cycle_pieces_from at inside t)
unfolding cycle_pieces_from
below_from [] at inside = tt
below_from (b ∷ t) at inside = go (digit_byte b) refl inside (λ i. below_from t (suc at) i)
  where
    more : (l : List PlacedPiece) → Below (suc at + length t) l → Below (at + suc (length t)) l
    more l h = let n : suc at + length t ≡ at + suc (length t) = omega arith in subst (λ (k : ℕ). Below k l) n h

    go : (d : Bool) → digit_byte b ≡ d → (i : Bool) → ((j : Bool) → Below (suc at + length t) (cycle_pieces_from (suc at) j t))
        → Below (at + suc (length t)) (cycle_pieces_from at i (b ∷ t))
    go true d true ih = subst (Below (at + suc (length t))) (sym (goes_on b t at d)) (more (cycle_pieces_from (suc at) true t) (ih true))
    go true d false ih = subst (Below (at + suc (length t))) (sym (begins_number b t at d)) (omega arith, more (cycle_pieces_from (suc at) true t) (ih true))
    go false d i ih = subst (Below (at + suc (length t))) (sym (is_mark b t at i d)) (omega arith, more (cycle_pieces_from (suc at) false t) (ih false))

inside_text : (t : List ℕ) (before : List PlacedPiece) (p : PlacedPiece) (behind : List PlacedPiece) → cycle_pieces t ≡ before ++ (p ∷ behind) → p.at < length t
unfolding cycle_pieces
inside_text t before p behind e =
    let n : 0 + length t ≡ length t = omega arith in
    below_mid (length t) before p behind (subst (Below (length t)) e (subst (λ (k : ℕ). Below k (cycle_pieces_from 0 false t)) n (below_from t 0 false)))

-- ---- more pieces behind

blanks_more : {ps behind : List CyclePiece} (n : ℕ) (r : List CyclePiece) → Blanks ps (number n ∷ behind) → Blanks (ps ++ r) (number n ∷ (behind ++ r))
blanks_more n r here = here
blanks_more n r (past b) = past (blanks_more n r b)

out_more : (ps r : List CyclePiece) → IndexOut ps → IndexOut (ps ++ r)
out_more ps r i = record { n = i.n; behind = i.behind ++ r; n_is = blanks_more i.n r i.n_is; out = i.out }

index_good : (ps : List CyclePiece) → bad_index ps ≡ false → ¬ IndexOut ps
index_good ps e i = clash (bad_behind i.n i.behind i.out i.n_is) e

-- the index is among the pieces, or they are blanks
index_seen : (ps r : List CyclePiece) → bad_index ps ≡ false → (bad_index (ps ++ r) ≡ false) ⊎ (read_all true front ps ≡ front)
unfolding bad_index read_all
index_seen [] r e = inr refl
index_seen (number n ∷ ps) r e = inl e
index_seen (blank ∷ ps) r e = index_seen ps r e
index_seen (opening ∷ ps) r e = inl refl
index_seen (closing ∷ ps) r e = inl refl
index_seen (comma ∷ ps) r e = inl refl
index_seen (semicolon ∷ ps) r e = inl refl
index_seen (another ∷ ps) r e = inl refl

good_more : (ps r : List CyclePiece) → ¬ IndexOut ps → ¬ Completes ps → ¬ IndexOut (ps ++ r)
good_more ps r n c = go (bad_index ps) refl
  where
    seen : (bad_index (ps ++ r) ≡ false) ⊎ (read_all true front ps ≡ front) → ¬ IndexOut (ps ++ r)
    seen (inl e) = index_good (ps ++ r) e
    seen (inr e) = absurd (c (alive_completes true ps (ap is_dead e)))

    go : (b : Bool) → bad_index ps ≡ b → ¬ IndexOut (ps ++ r)
    go true e = absurd (n (index_out_is ps e))
    go false e = seen (index_seen ps r e)

module _ (w s : List ℕ) (rest : List PlacedPiece) (e : cycle_pieces s ≡ cycle_pieces w ++ rest) where
  bare : pieces_in s ≡ pieces_in w ++ without_offsets rest
  bare = ap without_offsets e ∙ bare_append (cycle_pieces w) rest

  stays_out : IndexOut (pieces_in w) → verdict_of s ≡ index_out
  stays_out i = sym (verdict_only s index_out (no_index (subst IndexOut (sym bare) (out_more (pieces_in w) (without_offsets rest) i))))

  stays_lost : (before : List PlacedPiece) (p : PlacedPiece) (behind : List PlacedPiece) → cycle_pieces w ≡ before ++ (p ∷ behind)
      → ¬ IndexOut (pieces_in w) → Completes (without_offsets before) → ¬ Completes (without_offsets before ++ (p.piece ∷ [])) → verdict_of s ≡ leaves p.at
  unfolding without_offsets
  stays_lost before p behind f n c nc =
      let pieces = ap without_offsets f ∙ bare_append before (p ∷ behind) ∙ sym (append_assoc (without_offsets before) (p.piece ∷ []) (without_offsets behind)) in
      let none : ¬ Completes (pieces_in w) = λ k. nc
      (shorter (without_offsets before ++ (p.piece ∷ [])) (without_offsets behind) (subst (λ (l : List CyclePiece). Completes l) pieces k)) in
      let good = good_more (pieces_in w) (without_offsets rest) n none in
      sym (verdict_only s (leaves p.at) (wrong p.at (λ i. good (subst IndexOut bare i))
      (at_piece before p (behind ++ rest) (e ∙ ap (λ (l : List PlacedPiece). l ++ rest) f ∙ append_assoc before (p ∷ behind) rest) c nc)))

pub data Fate (w : List ℕ) : Verdict → Type 0 where
  out_already : ((s : List ℕ) (rest : List PlacedPiece) → cycle_pieces s ≡ cycle_pieces w ++ rest → verdict_of s ≡ index_out) → Fate w index_out
  lost_already : (place : ℕ) → place < length w
      → ((s : List ℕ) (rest : List PlacedPiece) → cycle_pieces s ≡ cycle_pieces w ++ rest → verdict_of s ≡ leaves place) → Fate w (leaves place)
  open_short : (place : ℕ) → length w ≤ place → Completes (without_offsets (cycle_pieces w)) → Fate w (leaves place)
  open_right : (q : Read) → Completes (without_offsets (cycle_pieces w)) → Fate w (reads q)

completes_right : (ps : List CyclePiece) (n : ℕ) (sc rc : List (List ℕ)) → Right ps n sc rc → Completes ps
completes_right ps n sc rc h = record {
  ending = [];
  n = n;
  sc = sc;
  rc = rc;
  right = subst (λ (l : List CyclePiece). Right l n sc rc) (sym (append-nil ps)) h;
}

pub fate : (w : List ℕ) (v : Verdict) → VerdictMeans w v → Fate w v
fate w v (right r h) = open_right r (completes_right (pieces_in w) r.index r.of_s r.of_r h)
fate w v (no_index i) = out_already (λ s rest e. stays_out w s rest e i)
fate w v (wrong place n (at_piece before p behind f c nc)) =
    lost_already p.at (inside_text w before p behind f) (λ s rest e. stays_lost w s rest e before p behind f n c nc)
fate w v (wrong place n (stops_short c k)) = open_short (length w) (omega arith) c

-- ---- a number past 3,066

and_none : (a : Bool) → (a && false) ≡ false
and_none true = refl
and_none false = refl

out_of_range_lem : (x : ℕ) → 3066 < x → in_range x ≡ false
out_of_range_lem x h = ap (λ (b : Bool). leb 1 x && b) (lt-leb x 3066 h) ∙ and_none (leb 1 x)

not_free : (n : ℕ) (seen : List ℕ) (x : ℕ) → n < x → free n seen x ≡ false
not_free n seen x h = ap (λ (b : Bool). (leb 1 x && b) && not (is_in seen x)) (lt-leb x n h) ∙ ap (λ (b : Bool). b && not (is_in seen x)) (and_none (leb 1 x))

turn_over : (semi : Bool) (n : ℕ) (seen cur : List ℕ) (done : List (List ℕ)) (ph : Phase) (x : ℕ) → n < x → turn_of semi n seen cur done ph (number x) ≡ stop
turn_over semi n seen cur done start x h = refl
turn_over semi n seen cur done opened x h = pick_false (free n seen x) _ _ (not_free n seen x h)
turn_over semi n seen cur done empty x h = refl
turn_over semi n seen cur done point x h = refl
turn_over semi n seen cur done wanted x h = pick_false (free n seen x) _ _ (not_free n seen x h)
turn_over semi n seen cur done closed x h = refl

-- the index of a state is in range
abbrev Ranged : State → Type 0
Ranged front = Unit {0}
Ranged (within_S n ph seen cur done) = n ≤ 3066
Ranged (within_R n sc ph seen cur done) = n ≤ 3066
Ranged dead = Unit {0}

ranged_S : (n : ℕ) (next : State) (t : PartTurn) → n ≤ 3066 → Ranged next → Ranged (after (within_S n) next t)
ranged_S n next (on ph seen cur done) h k = h
ranged_S n next over h k = k
ranged_S n next stop h k = tt

ranged_R : (n : ℕ) (sc : List (List ℕ)) (t : PartTurn) → n ≤ 3066 → Ranged (after (within_R n sc) dead t)
ranged_R n sc (on ph seen cur done) h = h
ranged_R n sc over h = tt
ranged_R n sc stop h = tt

ranged_index : (n : ℕ) (b : Bool) → in_range n ≡ b → Ranged (pick b (within_S n start [] [] []) dead)
ranged_index n true e = (range_of n e).1
ranged_index n false e = tt

ranged_piece : (semi : Bool) (q : State) (p : CyclePiece) → Ranged q → Ranged (read_piece semi q p)
ranged_piece semi front (number n) h = ranged_index n (in_range n) refl
ranged_piece semi front blank h = tt
ranged_piece semi front opening h = tt
ranged_piece semi front closing h = tt
ranged_piece semi front comma h = tt
ranged_piece semi front semicolon h = tt
ranged_piece semi front another h = tt
ranged_piece semi (within_S n ph seen cur done) p h = ranged_S n (begin_r semi n done) (turn_of semi n seen cur done ph p) h h
ranged_piece semi (within_R n sc ph seen cur done) p h = ranged_R n sc (turn_of semi n seen cur done ph p) h
ranged_piece semi dead p h = tt

ranged_all : (semi : Bool) (q : State) (ps : List CyclePiece) → Ranged q → Ranged (read_all semi q ps)
unfolding read_all
ranged_all semi q [] h = h
ranged_all semi q (p ∷ ps) h = ranged_all semi (read_piece semi q p) ps (ranged_piece semi q p h)

over_dead : (semi : Bool) (q : State) (x : ℕ) → Ranged q → 3066 < x → read_piece semi q (number x) ≡ dead
over_dead semi front x h k = pick_false (in_range x) _ _ (out_of_range_lem x k)
over_dead semi (within_S n ph seen cur done) x h k = ap (after (within_S n) (begin_r semi n done)) (turn_over semi n seen cur done ph x (omega arith))
over_dead semi (within_R n sc ph seen cur done) x h k = ap (after (within_R n sc) dead) (turn_over semi n seen cur done ph x (omega arith))
over_dead semi dead x h k = refl

pub over_lost : (ps : List CyclePiece) (x : ℕ) → 3066 < x → ¬ Completes (ps ++ (number x ∷ []))
unfolding read_all
over_lost ps x h = completes_alive (ps ++ (number x ∷ [])) (ap is_dead (died true)) (ap is_dead (died false))
  where
    died : (semi : Bool) → read_all semi front (ps ++ (number x ∷ [])) ≡ dead
    died semi = run_append semi front ps (number x ∷ []) ∙ over_dead semi (read_all semi front ps) x (ranged_all semi front ps tt) h

-- ---- a run at the end that says more than 3,066

bad_over : (ps r : List CyclePiece) (x : ℕ) → in_range x ≡ false → bad_index (ps ++ (number x ∷ r)) ≡ bad_index (ps ++ (number 3067 ∷ []))
unfolding bad_index
bad_over [] r x e = ap not e
bad_over (number n ∷ ps) r x e = refl
bad_over (blank ∷ ps) r x e = bad_over ps r x e
bad_over (opening ∷ ps) r x e = refl
bad_over (closing ∷ ps) r x e = refl
bad_over (comma ∷ ps) r x e = refl
bad_over (semicolon ∷ ps) r x e = refl
bad_over (another ∷ ps) r x e = refl

abbrev over_verdict : (w : List ℕ) → Bool → Verdict
over_verdict w b = pick b index_out (leaves (length w))

over_said : (w s : List ℕ) (x : ℕ) (rest : List PlacedPiece) → Completes (pieces_in w) → 3066 < x
    → cycle_pieces s ≡ cycle_pieces w ++ (record { at = length w; piece = number x } ∷ rest)
    → (b : Bool) → bad_index (pieces_in w ++ (number 3067 ∷ [])) ≡ b → verdict_of s ≡ over_verdict w b
unfolding without_offsets
over_said w s x rest c h e b i = sym (verdict_only s (over_verdict w b) (go b i))
  where
    here_is : PlacedPiece
    here_is = record { at = length w; piece = number x }

    bare_s : pieces_in s ≡ pieces_in w ++ (number x ∷ without_offsets rest)
    bare_s = ap without_offsets e ∙ bare_append (cycle_pieces w) (record { at = length w; piece = number x } ∷ rest)

    bad_s : bad_index (pieces_in s) ≡ bad_index (pieces_in w ++ (number 3067 ∷ []))
    bad_s = ap bad_index bare_s ∙ bad_over (pieces_in w) (without_offsets rest) x (out_of_range_lem x h)

    go : (b : Bool) → bad_index (pieces_in w ++ (number 3067 ∷ [])) ≡ b → VerdictMeans s (over_verdict w b)
    go true i = no_index (index_out_is (pieces_in s) (bad_s ∙ i))
    go false i = wrong (length w) (index_good (pieces_in s) (bad_s ∙ i))
        (at_piece (cycle_pieces w) (record { at = length w; piece = number x }) rest e c (over_lost (pieces_in w) x h))

pub data Sealed (t : List ℕ) : Verdict → Type 0 where
  sealed_out : ((u : List ℕ) → verdict_of (t ++ u) ≡ index_out) → Sealed t index_out
  sealed_at : (place : ℕ) → place < length t → ((u : List ℕ) → verdict_of (t ++ u) ≡ leaves place) → Sealed t (leaves place)

pub record SealedSome (t : List ℕ) : Type 0 where
  pub verdict : Verdict
  pub is : Sealed t verdict

module _ (t : List ℕ) (h : 3066 < run_value 0 (last_run t)) where
  abbrev w : List ℕ
  w = without_run t

  -- the pieces of a text that begins with t
  pub record RunPiece (u : List ℕ) : Type 0 where
    pub x : ℕ
    pub rest : List PlacedPiece
    pub big : 3066 < x
    pub pieces_are : cycle_pieces (t ++ u) ≡ cycle_pieces (without_run t) ++ (record { at = length (without_run t); piece = number x } ∷ rest)

  run_piece : (u : List ℕ) → RunPiece u
  unfolding run_value
  run_piece u = go (last_run t) refl
    where
      go : (d : List ℕ) → last_run t ≡ d → RunPiece u
      go [] e = let z : run_value 0 (last_run t) ≡ 0 = ap (run_value 0) e in let no : ⊥ = omega (arith, h) in absurd no
      go (b ∷ d) e =
          let all : all_digits (b ∷ d) ≡ true = subst (λ (l : List ℕ). all_digits l ≡ true) e (run_digits t) in
          let same : run_value 0 (last_run t) ≡ run_value 0 (b ∷ d) = ap (run_value 0) e in
          record {
            x = run_value 0 (b ∷ (d ++ u));
            rest = cycle_pieces_from (suc (length (without_run t))) true (d ++ u);
            big = omega (arith, h, same, grows (b ∷ d) u 0 all);
            pieces_are = pieces_split t u
                ∙ ap (λ (l : List ℕ). cycle_pieces (without_run t) ++ cycle_pieces_from (length (without_run t)) false (l ++ u)) e
                ∙ ap (λ (l : List PlacedPiece). cycle_pieces (without_run t) ++ l) (begins_number b (d ++ u) (length (without_run t)) (all_head b d all));
          }

  run_long : length (without_run t) < length t
  unfolding run_value
  run_long = go (last_run t) refl
    where
      go : (d : List ℕ) → last_run t ≡ d → length (without_run t) < length t
      go [] e = let z : run_value 0 (last_run t) ≡ 0 = ap (run_value 0) e in let no : ⊥ = omega (arith, h) in absurd no
      go (b ∷ d) e =
          let n : length t ≡ length (without_run t) + length (last_run t) = sym (ap length (split_run t)) ∙ length-append (without_run t) (last_run t) in
          let m : length (last_run t) ≡ suc (length d) = ap length e in
          omega (arith, n, m)

  by_completion : Completes (pieces_in (without_run t)) → SealedSome t
  by_completion c = go (bad_index (pieces_in (without_run t) ++ (number 3067 ∷ []))) refl
    where
      said : (b : Bool) → bad_index (pieces_in (without_run t) ++ (number 3067 ∷ [])) ≡ b → (u : List ℕ) → verdict_of (t ++ u) ≡ over_verdict (without_run t) b
      said b i u = let k = run_piece u in over_said (without_run t) (t ++ u) k.x k.rest c k.big k.pieces_are b i

      go : (b : Bool) → bad_index (pieces_in (without_run t) ++ (number 3067 ∷ [])) ≡ b → SealedSome t
      go true i = record { verdict = index_out; is = sealed_out (said true i) }
      go false i = record { verdict = leaves (length (without_run t)); is = sealed_at (length (without_run t)) run_long (said false i) }

  pub sealed_by_run : (v : Verdict) → Fate (without_run t) v → SealedSome t
  sealed_by_run v (out_already all) = record { verdict = index_out; is = sealed_out (λ u. all (t ++ u) _ (pieces_split t u)) }
  sealed_by_run v (lost_already place l all) =
      record { verdict = leaves place; is = sealed_at place (omega (arith, l, run_long)) (λ u. all (t ++ u) _ (pieces_split t u)) }
  sealed_by_run v (open_short place l c) = by_completion c
  sealed_by_run v (open_right q c) = by_completion c
