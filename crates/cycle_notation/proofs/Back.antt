-- The other way: a permutation through which the reader comes is of the form. By induction on the pieces, for all phases at once.
-- Assumes nothing.
use Rattle.std.specs.Prelude.{Some}
use mathlib.Core.Path.{◌≡◌, refl, sym, ap, ◌∙◌}
use mathlib.Core.Bool.{Bool, true, false}
use mathlib.Core.List.{List, [], ◌∷◌, ◌++◌, append-nil, append_assoc}
use Prim.Native.Nat.{ℕ}
use Rattle.basics.specs.Choice.{pick}
use Rattle.basics.proofs.Choice.{clash}
use Rattle.cycle_notation.specs.Piece.{CyclePiece, number, blank, opening, closing, comma, semicolon, another}
use Rattle.cycle_notation.specs.Form.{Blanks, here, past, More, last, further, Cycles, end, gap, cycle, points_of, free, Disjoint, all, next}
use Rattle.cycle_notation.specs.Verdict.{Read}
use Rattle.cycle_notation.specs.Inner.Reader.{Phase, start, opened, empty, point, wanted, closed, room, PartTurn, on, over, stop, turn_of, State, dead}
use Rattle.cycle_notation.specs.Inner.Reader.{WithinPart, after, read_all, read_outcome, may_end}
use Rattle.cycle_notation.proofs.Points.{no_read}
use Rattle.cycle_notation.proofs.Along.{Steps, moved}

pub run_dead : (semi : Bool) (ps : List CyclePiece) → read_all semi dead ps ≡ dead
unfolding read_all
run_dead semi [] = refl
run_dead semi (p ∷ ps) = run_dead semi ps

abbrev pub separator : Bool → CyclePiece
separator semi = pick semi semicolon opening

module _ (semi : Bool) (n : ℕ) (within : WithinPart) (then : List (List ℕ) → State) (law : Steps semi n within then)
    (r : Read) (Ends : List (List ℕ) → Type 0)
    (ends : (ph : Phase) (seen cur : List ℕ) (done : List (List ℕ)) → read_outcome (within ph seen cur done) ≡ Some r → (may_end ph ≡ true) × Ends done) where
  -- what follows the permutation with the cycles cs
  pub data Follow (cs : List (List ℕ)) : List CyclePiece → Type 0 where
    ended : Ends cs → Follow cs []
    behind : {mid : List CyclePiece} → read_outcome (read_all semi (then cs) mid) ≡ Some r → Follow cs (separator semi ∷ mid)

  -- what is left of the text, by the phase
  pub record ClosedTail (seen : List ℕ) (done : List (List ℕ)) (ps : List CyclePiece) : Type 0 where
    pub new : List (List ℕ)
    pub rest : List CyclePiece
    pub cycles : Cycles ps new rest
    pub disjoint : Disjoint n seen (points_of new)
    pub few : semi ≡ false → new ≡ []
    pub follow : Follow (done ++ new) rest

  pub record PointTail (seen cur : List ℕ) (done : List (List ℕ)) (ps : List CyclePiece) : Type 0 where
    pub xs : List ℕ
    pub new : List (List ℕ)
    pub mid : List CyclePiece
    pub rest : List CyclePiece
    pub more : More ps xs mid
    pub cycles : Cycles mid new rest
    pub disjoint : Disjoint n seen (xs ++ points_of new)
    pub few : semi ≡ false → new ≡ []
    pub follow : Follow (done ++ ((cur ++ xs) ∷ new)) rest

  pub data WantedTail (seen cur : List ℕ) (done : List (List ℕ)) : List CyclePiece → Type 0 where
    named : (x : ℕ) {ps : List CyclePiece} → free n seen x ≡ true → PointTail (x ∷ seen) (cur ++ (x ∷ [])) done ps → WantedTail seen cur done (number x ∷ ps)

  pub record EmptyTail (done : List (List ℕ)) (ps : List CyclePiece) : Type 0 where
    pub rest : List CyclePiece
    pub blanks : Blanks ps rest
    pub follow : Follow done rest

  pub data OpenedTail (seen cur : List ℕ) (done : List (List ℕ)) : List CyclePiece → Type 0 where
    shut : {ps : List CyclePiece} → EmptyTail done ps → OpenedTail seen cur done (closing ∷ ps)
    point_first : {ps : List CyclePiece} → WantedTail seen cur done ps → OpenedTail seen cur done ps

  pub data StartTail (seen cur : List ℕ) (done : List (List ℕ)) (ps : List CyclePiece) : Type 0 where
    nothing : Blanks ps [] → Ends done → StartTail seen cur done ps
    nothing_more : (mid : List CyclePiece) → semi ≡ true → Blanks ps (semicolon ∷ mid) → read_outcome (read_all semi (then done) mid) ≡ Some r
        → StartTail seen cur done ps
    bracket : (ps' : List CyclePiece) → Blanks ps (opening ∷ ps') → OpenedTail seen cur done ps' → StartTail seen cur done ps

  abbrev pub Tail : Phase → (seen cur : List ℕ) → (done : List (List ℕ)) → List CyclePiece → Type 0
  Tail start seen cur done ps = StartTail seen cur done ps
  Tail opened seen cur done ps = OpenedTail seen cur done ps
  Tail empty seen cur done ps = EmptyTail done ps
  Tail point seen cur done ps = PointTail seen cur done ps
  Tail wanted seen cur done ps = WantedTail seen cur done ps
  Tail closed seen cur done ps = ClosedTail seen done ps

  at_end : (ph : Phase) (seen cur : List ℕ) (done : List (List ℕ)) → (may_end ph ≡ true) × Ends done → Tail ph seen cur done []
  unfolding points_of
  at_end start seen cur done h = nothing here h.1
  at_end opened seen cur done h = clash h.0 refl
  at_end empty seen cur done h = record { rest = []; blanks = here; follow = ended h.1 }
  at_end point seen cur done h = clash h.0 refl
  at_end wanted seen cur done h = clash h.0 refl
  at_end closed seen cur done h = record {
    new = [];
    rest = [];
    cycles = end;
    disjoint = all;
    few = λ e. refl;
    follow = rw (append-nil done) (ended h.1);
  }

  module _ (ps : List CyclePiece)
      (ih : (ph : Phase) (seen cur : List ℕ) (done : List (List ℕ)) → read_outcome (read_all semi (within ph seen cur done) ps) ≡ Some r → Tail ph seen cur done ps)
      (seen cur : List ℕ) (done : List (List ℕ)) where
    -- the piece p in the phase ph took the turn t
    came : (ph : Phase) (p : CyclePiece) (t : PartTurn) → turn_of semi n seen cur done ph p ≡ t → read_outcome (read_all semi (within ph seen cur done) (p ∷ ps))
        ≡ Some r
        → read_outcome (read_all semi (after within (then done) t) ps) ≡ Some r
    came ph p t e h = ap read_outcome (sym (moved semi n within then law ph seen cur done p ps t e)) ∙ h

    stuck : {A : Type 0} (ph : Phase) (p : CyclePiece) → turn_of semi n seen cur done ph p ≡ stop → read_outcome (read_all semi (within ph seen cur done) (p ∷ ps))
        ≡ Some r → A
    stuck ph p e h = no_read (sym (ap read_outcome (run_dead semi ps)) ∙ came ph p stop e h)

    from_named : (ph : Phase) (x : ℕ) (b : Bool) → free n seen x ≡ b
        → turn_of semi n seen cur done ph (number x) ≡ pick (free n seen x) (on point (x ∷ seen) (cur ++ (x ∷ [])) done) stop
        → read_outcome (read_all semi (within ph seen cur done) (number x ∷ ps)) ≡ Some r → WantedTail seen cur done (number x ∷ ps)
    from_named ph x true f e h =
        named x f (ih point (x ∷ seen) (cur ++ (x ∷ [])) done
        (came ph (number x) _ (e ∙ ap (λ (z : Bool). pick z (on point (x ∷ seen) (cur ++ (x ∷ [])) done) stop) f) h))
    from_named ph x false f e h = stuck ph (number x) (e ∙ ap (λ (z : Bool). pick z (on point (x ∷ seen) (cur ++ (x ∷ [])) done) stop) f) h

    -- a semicolon behind a permutation that may be over
    separated : (b : Bool) → semi ≡ b → (ph : Phase) → turn_of semi n seen cur done ph semicolon ≡ pick semi over stop
        → read_outcome (read_all semi (within ph seen cur done) (semicolon ∷ ps)) ≡ Some r → (semi ≡ true) × (read_outcome (read_all semi (then done) ps) ≡ Some r)
    separated true f ph e h = (f, came ph semicolon over (e ∙ ap (λ (z : Bool). pick z over stop) f) h)
    separated false f ph e h = stuck ph semicolon (e ∙ ap (λ (z : Bool). pick z over stop) f) h

    follow_semicolon : (cs : List (List ℕ)) → (semi ≡ true) × (read_outcome (read_all semi (then cs) ps) ≡ Some r) → Follow cs (semicolon ∷ ps)
    follow_semicolon cs h =
        let z : separator semi ≡ semicolon = ap separator h.0 in
        rw (← z) (behind h.1)

    from_start : (p : CyclePiece) → read_outcome (read_all semi (within start seen cur done) (p ∷ ps)) ≡ Some r → StartTail seen cur done (p ∷ ps)
    from_start (number x) h = stuck start (number x) refl h
    from_start blank h = later (ih start seen cur done (came start blank _ refl h))
      where
        later : StartTail seen cur done ps → StartTail seen cur done (blank ∷ ps)
        later (nothing b e) = nothing (past b) e
        later (nothing_more mid t b e) = nothing_more mid t (past b) e
        later (bracket ps' b o) = bracket ps' (past b) o
    from_start opening h = bracket ps here (ih opened seen cur done (came start opening _ refl h))
    from_start closing h = stuck start closing refl h
    from_start comma h = stuck start comma refl h
    from_start semicolon h = let z = separated semi refl start refl h in nothing_more ps z.0 here z.1
    from_start another h = stuck start another refl h

    from_opened : (p : CyclePiece) → read_outcome (read_all semi (within opened seen cur done) (p ∷ ps)) ≡ Some r → OpenedTail seen cur done (p ∷ ps)
    from_opened (number x) h = point_first (from_named opened x (free n seen x) refl refl h)
    from_opened blank h = stuck opened blank refl h
    from_opened opening h = stuck opened opening refl h
    from_opened closing h = shut (ih empty seen cur done (came opened closing _ refl h))
    from_opened comma h = stuck opened comma refl h
    from_opened semicolon h = stuck opened semicolon refl h
    from_opened another h = stuck opened another refl h

    from_empty : (p : CyclePiece) → read_outcome (read_all semi (within empty seen cur done) (p ∷ ps)) ≡ Some r → EmptyTail done (p ∷ ps)
    from_empty (number x) h = stuck empty (number x) refl h
    from_empty blank h = let t = ih empty seen cur done (came empty blank _ refl h) in record { rest = t.rest; blanks = past t.blanks; follow = t.follow }
    from_empty opening h = go semi refl
      where
        go : (b : Bool) → semi ≡ b → EmptyTail done (opening ∷ ps)
        go true f = stuck empty opening (ap (λ (z : Bool). pick z stop over) f) h
        go false f =
            let z : separator semi ≡ opening = ap separator f in
            record { rest = opening ∷ ps; blanks = here; follow = rw (← z) (behind (came empty opening over (ap (λ (z : Bool). pick z stop over) f) h)) }
    from_empty closing h = stuck empty closing refl h
    from_empty comma h = stuck empty comma refl h
    from_empty semicolon h = record { rest = semicolon ∷ ps; blanks = here; follow = follow_semicolon done (separated semi refl empty refl h) }
    from_empty another h = stuck empty another refl h

    from_point : (p : CyclePiece) → read_outcome (read_all semi (within point seen cur done) (p ∷ ps)) ≡ Some r → PointTail seen cur done (p ∷ ps)
    from_point (number x) h = stuck point (number x) refl h
    from_point blank h = stuck point blank refl h
    from_point opening h = stuck point opening refl h
    from_point closing h =
        let t = ih closed seen [] (done ++ (cur ∷ [])) (came point closing _ refl h) in record {
          xs = [];
          new = t.new;
          mid = ps;
          rest = t.rest;
          more = last;
          cycles = t.cycles;
          disjoint = t.disjoint;
          few = t.few;
          follow = rw (append-nil cur, ← append_assoc done (cur ∷ []) t.new) t.follow;
        }
    from_point comma h = go (room n seen) refl
      where
        grown : {ps' : List CyclePiece} → WantedTail seen cur done ps' → PointTail seen cur done (comma ∷ ps')
        grown (named x f t) = record {
          xs = x ∷ t.xs;
          new = t.new;
          mid = t.mid;
          rest = t.rest;
          more = further t.more;
          cycles = t.cycles;
          disjoint = next f t.disjoint;
          few = t.few;
          follow = rw (← append_assoc cur (x ∷ []) t.xs) t.follow;
        }

        go : (b : Bool) → room n seen ≡ b → PointTail seen cur done (comma ∷ ps)
        go true f = grown (ih wanted seen cur done (came point comma _ (ap (λ (z : Bool). pick z (on wanted seen cur done) stop) f) h))
        go false f = stuck point comma (ap (λ (z : Bool). pick z (on wanted seen cur done) stop) f) h
    from_point semicolon h = stuck point semicolon refl h
    from_point another h = stuck point another refl h

    from_wanted : (p : CyclePiece) → read_outcome (read_all semi (within wanted seen cur done) (p ∷ ps)) ≡ Some r → WantedTail seen cur done (p ∷ ps)
    from_wanted (number x) h = from_named wanted x (free n seen x) refl refl h
    from_wanted blank h = stuck wanted blank refl h
    from_wanted opening h = stuck wanted opening refl h
    from_wanted closing h = stuck wanted closing refl h
    from_wanted comma h = stuck wanted comma refl h
    from_wanted semicolon h = stuck wanted semicolon refl h
    from_wanted another h = stuck wanted another refl h

    -- no further cycle: what follows begins here
    at_once : {q : List CyclePiece} → Follow done q → ClosedTail seen done q
    unfolding points_of
    at_once {q} f = record { new = []; rest = q; cycles = end; disjoint = all; few = λ e. refl; follow = rw (append-nil done) f }

    from_closed : (p : CyclePiece) → read_outcome (read_all semi (within closed seen cur done) (p ∷ ps)) ≡ Some r → ClosedTail seen done (p ∷ ps)
    unfolding points_of
    from_closed (number x) h = stuck closed (number x) refl h
    from_closed blank h =
        let t = ih closed seen cur done (came closed blank _ refl h) in
        record { new = t.new; rest = t.rest; cycles = gap t.cycles; disjoint = t.disjoint; few = t.few; follow = t.follow }
    from_closed opening h = go semi refl (room n seen) refl
      where
        turned : Bool → Bool → PartTurn
        turned s m = pick s (pick m (on wanted seen [] done) stop) over

        grown : semi ≡ true → {ps' : List CyclePiece} → WantedTail seen [] done ps' → ClosedTail seen done (opening ∷ ps')
        grown e (named x f t) = record {
          new = (x ∷ t.xs) ∷ t.new;
          rest = t.rest;
          cycles = cycle t.more t.cycles;
          disjoint = next f t.disjoint;
          few = λ g. clash e g;
          follow = t.follow;
        }

        go : (b : Bool) → semi ≡ b → (m : Bool) → room n seen ≡ m → ClosedTail seen done (opening ∷ ps)
        go true f true g = grown f
            (ih wanted seen [] done (came closed opening _ (ap (λ (z : Bool). turned z (room n seen)) f ∙ ap (λ (z : Bool). turned true z) g) h))
        go true f false g = stuck closed opening (ap (λ (z : Bool). turned z (room n seen)) f ∙ ap (λ (z : Bool). turned true z) g) h
        go false f m g =
            let z : separator semi ≡ opening = ap separator f in
            at_once (rw (← z) (behind (came closed opening over (ap (λ (z : Bool). turned z (room n seen)) f) h)))
    from_closed closing h = stuck closed closing refl h
    from_closed comma h = stuck closed comma refl h
    from_closed semicolon h = at_once (follow_semicolon done (separated semi refl closed refl h))
    from_closed another h = stuck closed another refl h

    from : (ph : Phase) (p : CyclePiece) → read_outcome (read_all semi (within ph seen cur done) (p ∷ ps)) ≡ Some r → Tail ph seen cur done (p ∷ ps)
    from start p h = from_start p h
    from opened p h = from_opened p h
    from empty p h = from_empty p h
    from point p h = from_point p h
    from wanted p h = from_wanted p h
    from closed p h = from_closed p h

  pub back : (ps : List CyclePiece) (ph : Phase) (seen cur : List ℕ) (done : List (List ℕ)) → read_outcome (read_all semi (within ph seen cur done) ps) ≡ Some r
      → Tail ph seen cur done ps
  unfolding read_all
  back [] ph seen cur done h = at_end ph seen cur done (ends ph seen cur done h)
  back (p ∷ ps) ph seen cur done h = from ps (back ps) seen cur done ph p h
