-- The reader along a permutation of the form: it goes on to the permutation's end, with the cycles that the form has. The same for S and for R: `within`
-- is the state within the permutation, `next` the one behind it.
-- Assumes nothing.
use mathlib.Core.Path.{◌≡◌, refl, sym, ap, ◌∙◌}
use mathlib.Core.Logic.{◌⊎◌, inl, inr}
use mathlib.Core.Bool.{Bool, true, false}
use mathlib.Core.List.{List, [], ◌∷◌, ◌++◌, append-nil, append_assoc}
use Prim.Native.Nat.{ℕ}
use lib.ListN.{length}
use native.Mathlib.Omega.{arith}
use Rattle.basics.proofs.Choice.{pick_true}
use Rattle.cycle_notation.specs.Piece.{CyclePiece, number, blank, opening, closing, comma}
use Rattle.cycle_notation.specs.Form
use Rattle.cycle_notation.specs.Form.{Blanks, here, past, More, last, further, Cycles, end, gap, cycle, Enough, Written, cycles, points_of, free, Disjoint}
use Rattle.cycle_notation.specs.Form.{all, next}
use Rattle.cycle_notation.specs.Inner.Reader.{Phase, opened, empty, point, wanted, closed, PartTurn, on, turn_of, State}
use Rattle.cycle_notation.specs.Inner.Reader.{WithinPart, after, read_piece, read_all}
use Rattle.cycle_notation.proofs.Points.{free_room}

-- a permutation that is over, and may have blanks behind it
pub data Settled : Phase → Type 0 where
  behind_identity : Settled empty
  behind_cycle : Settled closed

-- where the steps of a state are those of a permutation
pub record Steps (semi : Bool) (n : ℕ) (within : WithinPart) (then : List (List ℕ) → State) : Type 0 where
  pub steps : (ph : Phase) (seen cur : List ℕ) (done : List (List ℕ)) (p : CyclePiece)
      → read_piece semi (within ph seen cur done) p ≡ after within (then done) (turn_of semi n seen cur done ph p)

module _ (semi : Bool) (n : ℕ) (within : WithinPart) (then : List (List ℕ) → State) (law : Steps semi n within then) where
  pub moved : (ph : Phase) (seen cur : List ℕ) (done : List (List ℕ)) (p : CyclePiece) (ps : List CyclePiece) (t : PartTurn)
      → turn_of semi n seen cur done ph p ≡ t → read_all semi (within ph seen cur done) (p ∷ ps) ≡ read_all semi (after within (then done) t) ps
  unfolding read_all
  moved ph seen cur done p ps t e = ap (λ (q : State). read_all semi q ps) (law.steps ph seen cur done p ∙ ap (λ (z : PartTurn). after within (then done) z) e)

  pub over_blanks : (ph : Phase) (seen cur : List ℕ) (done : List (List ℕ)) {ps rest : List CyclePiece}
      → turn_of semi n seen cur done ph blank ≡ on ph seen cur done → Blanks ps rest
      → read_all semi (within ph seen cur done) ps ≡ read_all semi (within ph seen cur done) rest
  over_blanks ph seen cur done quiet here = refl
  over_blanks ph seen cur done quiet (past {ps = ps} b) = moved ph seen cur done blank ps _ quiet ∙ over_blanks ph seen cur done quiet b

  -- a point that is free
  pub over_wanted : (seen cur : List ℕ) (done : List (List ℕ)) (x : ℕ) (ps : List CyclePiece) → free n seen x ≡ true
      → read_all semi (within wanted seen cur done) (number x ∷ ps) ≡ read_all semi (within point (x ∷ seen) (cur ++ (x ∷ [])) done) ps
  over_wanted seen cur done x ps f = moved wanted seen cur done (number x) ps _ (pick_true _ _ _ f)

  pub over_opened : (seen cur : List ℕ) (done : List (List ℕ)) (x : ℕ) (ps : List CyclePiece) → free n seen x ≡ true
      → read_all semi (within opened seen cur done) (number x ∷ ps) ≡ read_all semi (within point (x ∷ seen) (cur ++ (x ∷ [])) done) ps
  over_opened seen cur done x ps f = moved opened seen cur done (number x) ps _ (pick_true _ _ _ f)

  -- behind the points: the cycle is closed, and the points ys are still to come
  pub record Closed (q : State) (ps : List CyclePiece) (done : List (List ℕ)) (rest : List CyclePiece) (ys : List ℕ) : Type 0 where
    pub seen : List ℕ
    pub runs : read_all semi q ps ≡ read_all semi (within closed seen [] done) rest
    pub left : Disjoint n seen ys

  longer : (cur xs : List ℕ) (x : ℕ) (done : List (List ℕ)) → done ++ (((cur ++ (x ∷ [])) ++ xs) ∷ []) ≡ done ++ ((cur ++ (x ∷ xs)) ∷ [])
  longer cur xs x done = ap (λ (c : List ℕ). done ++ (c ∷ [])) (append_assoc cur (x ∷ []) xs)

  pub over_more : (seen cur : List ℕ) (done : List (List ℕ)) {ps rest : List CyclePiece} {xs : List ℕ} (ys : List ℕ) → More ps xs rest
      → Disjoint n seen (xs ++ ys) → Closed (within point seen cur done) ps (done ++ ((cur ++ xs) ∷ [])) rest ys
  over_more seen cur done ys (last {ps}) d = record {
    seen = seen;
    runs = moved point seen cur done closing ps _ refl
        ∙ ap (λ (c : List ℕ). read_all semi (within closed seen [] (done ++ (c ∷ []))) ps) (sym (append-nil cur));
    left = d;
  }
  over_more seen cur done ys (further {ps} {rest} {x} {xs} m) (next f d) =
      let r = over_more (x ∷ seen) (cur ++ (x ∷ [])) done ys m d in record {
        seen = r.seen;
        runs = moved point seen cur done comma (number x ∷ ps) _ (pick_true _ _ _ (free_room n seen x f))
            ∙ over_wanted seen cur done x ps f
            ∙ r.runs
            ∙ ap (λ (cs : List (List ℕ)). read_all semi (within closed r.seen [] cs) rest) (longer cur xs x done);
        left = r.left;
      }

  -- cycles behind a cycle, where a semicolon is to come
  pub over_cycles : semi ≡ true → (seen : List ℕ) (done : List (List ℕ)) {ps rest : List CyclePiece} {cs : List (List ℕ)} → Cycles ps cs rest
      → Disjoint n seen (points_of cs) → Closed (within closed seen [] done) ps (done ++ cs) rest []
  unfolding points_of
  over_cycles e seen done (end {ps}) d = record {
    seen = seen;
    runs = ap (λ (cs : List (List ℕ)). read_all semi (within closed seen [] cs) ps) (sym (append-nil done));
    left = all;
  }
  over_cycles e seen done (gap {ps} c) d =
      let r = over_cycles e seen done c d in
      record { seen = r.seen; runs = moved closed seen [] done blank ps _ refl ∙ r.runs; left = all }
  over_cycles e seen done (cycle {ps} {mid} {rest} {x} {xs} {cs} m c) (next f d) =
      let a = over_more (x ∷ seen) (x ∷ []) done (points_of cs) m d in
      let r = over_cycles e a.seen (done ++ ((x ∷ xs) ∷ [])) c a.left in record {
        seen = r.seen;
        runs = moved closed seen [] done opening (number x ∷ ps) _ (pick_true semi _ _ e ∙ pick_true _ _ _ (free_room n seen x f))
            ∙ over_wanted seen [] done x ps f
            ∙ a.runs
            ∙ r.runs
            ∙ ap (λ (l : List (List ℕ)). read_all semi (within closed r.seen [] l) rest) (append_assoc done ((x ∷ xs) ∷ []) cs);
        left = all;
      }

  -- a permutation: behind its first bracket, or nothing written
  pub data Begun (ps : List CyclePiece) (cs : List (List ℕ)) (rest : List CyclePiece) : Type 0 where
    bracket : (ps' : List CyclePiece) → Blanks ps (opening ∷ ps') → (ph : Phase) (seen : List ℕ) → Settled ph
        → read_all semi (within opened [] [] []) ps' ≡ read_all semi (within ph seen [] cs) rest → Begun ps cs rest
    nothing : semi ≡ true → cs ≡ [] → Blanks ps rest → Begun ps cs rest

  later : {ps : List CyclePiece} {cs : List (List ℕ)} {rest : List CyclePiece} → Begun ps cs rest → Begun (blank ∷ ps) cs rest
  later (bracket ps' b ph seen s e) = bracket ps' (past b) ph seen s e
  later (nothing t e b) = nothing t e (past b)

  only_one : (c : List ℕ) (cs : List (List ℕ)) → length (c ∷ cs) ≡ 1 → cs ≡ []
  only_one c [] e = refl
  only_one c (d ∷ cs) e = absurd (omega arith)

  -- where no cycle is left, there are blanks
  pub blanks_of : {ps rest : List CyclePiece} {cs : List (List ℕ)} → Cycles ps cs rest → cs ≡ [] → Blanks ps rest
  blanks_of end e = here
  blanks_of (gap c) e = past (blanks_of c e)
  blanks_of (cycle {x} {xs} {cs} m c) e = let z : ◌≡◌ {A = ℕ} 0 1 = cc in absurd (omega arith)

  as_true : (cs : List (List ℕ)) (b : Bool) → semi ≡ b → Enough semi cs → (semi ≡ true) ⊎ (length cs ≡ 1)
  as_true cs true e h = inl e
  as_true cs false e h = inr (rw e at h)

  behind_first_lem : {ps mid rest : List CyclePiece} (x : ℕ) (xs : List ℕ) (cs : List (List ℕ)) → (semi ≡ true) ⊎ (length ((x ∷ xs) ∷ cs) ≡ 1)
      → More ps xs mid → Cycles mid cs rest → Disjoint n [] (points_of ((x ∷ xs) ∷ cs)) → Begun (opening ∷ number x ∷ ps) ((x ∷ xs) ∷ cs) rest
  unfolding points_of
  behind_first_lem {ps} {mid} {rest} x xs cs h m c (next f d) = go h
    where
      a : Closed (within point (x ∷ []) (x ∷ []) []) ps ((x ∷ xs) ∷ []) mid (points_of cs)
      a = over_more (x ∷ []) (x ∷ []) [] (points_of cs) m d

      so_far : read_all semi (within opened [] [] []) (number x ∷ ps) ≡ read_all semi (within closed a.seen [] ((x ∷ xs) ∷ [])) mid
      so_far = over_opened [] [] [] x ps f ∙ a.runs

      go : (semi ≡ true) ⊎ (length ((x ∷ xs) ∷ cs) ≡ 1) → Begun (opening ∷ number x ∷ ps) ((x ∷ xs) ∷ cs) rest
      go (inl e) = let r = over_cycles e a.seen ((x ∷ xs) ∷ []) c a.left in
          bracket (number x ∷ ps) here closed r.seen behind_cycle (so_far ∙ r.runs)
      go (inr e) = let z = only_one (x ∷ xs) cs e in
          bracket (number x ∷ ps) here closed a.seen behind_cycle
          (so_far ∙ over_blanks closed a.seen [] ((x ∷ xs) ∷ []) refl (blanks_of c z)
          ∙ ap (λ (l : List (List ℕ)). read_all semi (within closed a.seen [] ((x ∷ xs) ∷ l)) rest) (sym z))

  cycles_begun : {ps rest : List CyclePiece} {cs : List (List ℕ)} → (semi ≡ true) ⊎ (length cs ≡ 1) → Cycles ps cs rest
      → Disjoint n [] (points_of cs) → Begun ps cs rest
  cycles_begun (inl e) end d = nothing e refl here
  cycles_begun (inr e) end d = absurd (omega arith)
  cycles_begun h (gap c) d = later (cycles_begun h c d)
  cycles_begun h (cycle {x} {xs} {cs} m c) d = behind_first_lem x xs cs h m c d

  pub written_begun : {ps rest : List CyclePiece} {cs : List (List ℕ)} → Written semi ps cs rest → Disjoint n [] (points_of cs) → Begun ps cs rest
  written_begun (cycles {cs} h c) d = cycles_begun (as_true cs semi refl h) c d
  written_begun (Form.identity {mid} {rest} a b) d =
      bracket (closing ∷ mid) a empty [] behind_identity (moved opened [] [] [] closing mid _ refl ∙ over_blanks empty [] [] [] refl b)
