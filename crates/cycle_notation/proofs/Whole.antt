-- A text is right exactly when one of the two readers comes through, and it then has read the index and the cycles of the form.
--     accepted     a right text is read, by the reader of its reading
--     right_of     what a reader has read is right
-- Assumes nothing.
use Rattle.std.specs.Prelude.{None, Some}
use mathlib.Core.Path.{◌≡◌, refl, sym, ap, subst, ◌∙◌}
use mathlib.Core.Logic.{◌⊎◌, inl, inr}
use mathlib.Core.Bool.{Bool, true, false}
use mathlib.Core.List.{List, [], ◌∷◌}
use Prim.Native.Nat.{ℕ}
use Rattle.basics.proofs.Choice.{pick_true, pick_false, clash}
use Rattle.cycle_notation.specs.Piece.{CyclePiece, number, blank, opening, closing, comma, semicolon, another}
use Rattle.cycle_notation.specs.Form
use Rattle.cycle_notation.specs.Form.{Blanks, here, past, Cycles, end, gap, cycle, Enough, Written, cycles, behind_s, Reading, points_of, Disjoint, all}
use Rattle.cycle_notation.specs.Form.{next, in_range, Right}
use Rattle.cycle_notation.specs.Verdict.{Read}
use Rattle.cycle_notation.specs.Inner.Reader.{Phase, start, opened, empty, point, wanted, closed, on, over, turn_of, State, front, within_S, within_R}
use Rattle.cycle_notation.specs.Inner.Reader.{dead, begin_r, read_all, read_outcome, may_end}
use Rattle.cycle_notation.proofs.Points.{no_read}
use Rattle.cycle_notation.proofs.Along.{Steps, Settled, behind_identity, behind_cycle, moved, over_blanks, Begun, bracket, nothing, written_begun}
use Rattle.cycle_notation.proofs.Back
use Rattle.cycle_notation.proofs.Back.{run_dead, back}

pub law_S : (semi : Bool) (n : ℕ) → Steps semi n (within_S n) (begin_r semi n)
law_S semi n = record { steps = λ ph seen cur done p. refl }

pub law_R : (semi : Bool) (n : ℕ) (sc : List (List ℕ)) → Steps semi n (within_R n sc) (λ cs. dead)
law_R semi n sc = record { steps = λ ph seen cur done p. refl }

abbrev pub read_as : ℕ → (sc rc : List (List ℕ)) → Read
read_as n sc rc = record { index = n; of_s = sc; of_r = rc }

-- ---- from the form to the reader

over_front : (semi : Bool) (n : ℕ) {ps behind : List CyclePiece} → in_range n ≡ true → Blanks ps (number n ∷ behind)
    → read_all semi front ps ≡ read_all semi (within_S n start [] [] []) behind
unfolding read_all
over_front semi n {behind = behind} i here = ap (λ (q : State). read_all semi q behind) (pick_true (in_range n) _ _ i)
over_front semi n i (past b) = over_front semi n i b

settled_quiet : (semi : Bool) (n : ℕ) (ph : Phase) (seen : List ℕ) (done : List (List ℕ)) → Settled ph → turn_of semi n seen [] done ph blank
    ≡ on ph seen [] done
settled_quiet semi n empty seen done behind_identity = refl
settled_quiet semi n closed seen done behind_cycle = refl
settled_quiet semi n start seen done s = elim s [ ]
settled_quiet semi n opened seen done s = elim s [ ]
settled_quiet semi n point seen done s = elim s [ ]
settled_quiet semi n wanted seen done s = elim s [ ]

pub settled_whole : (ph : Phase) → Settled ph → may_end ph ≡ true
settled_whole empty behind_identity = refl
settled_whole closed behind_cycle = refl
settled_whole start s = elim s [ ]
settled_whole opened s = elim s [ ]
settled_whole point s = elim s [ ]
settled_whole wanted s = elim s [ ]

pub settled_semicolon : (n : ℕ) (ph : Phase) (seen cur : List ℕ) (done : List (List ℕ)) → Settled ph → turn_of true n seen cur done ph semicolon ≡ over
settled_semicolon n empty seen cur done behind_identity = refl
settled_semicolon n closed seen cur done behind_cycle = refl
settled_semicolon n start seen cur done s = elim s [ ]
settled_semicolon n opened seen cur done s = elim s [ ]
settled_semicolon n point seen cur done s = elim s [ ]
settled_semicolon n wanted seen cur done s = elim s [ ]

pub settled_opening : (n : ℕ) (ph : Phase) (seen cur : List ℕ) (done : List (List ℕ)) → Settled ph → turn_of false n seen cur done ph opening ≡ over
settled_opening n empty seen cur done behind_identity = refl
settled_opening n closed seen cur done behind_cycle = refl
settled_opening n start seen cur done s = elim s [ ]
settled_opening n opened seen cur done s = elim s [ ]
settled_opening n point seen cur done s = elim s [ ]
settled_opening n wanted seen cur done s = elim s [ ]

read_R : (semi : Bool) (n : ℕ) (sc rc : List (List ℕ)) (ph : Phase) (seen : List ℕ) → may_end ph ≡ true
    → read_outcome (read_all semi (within_R n sc ph seen [] rc) []) ≡ Some (read_as n sc rc)
unfolding read_all
read_R semi n sc rc ph seen e = pick_true (may_end ph) _ _ e

-- R from its beginning, behind a semicolon
from_start : (n : ℕ) (sc rc : List (List ℕ)) {ps : List CyclePiece} → Begun true n (within_R n sc) (λ cs. dead) (law_R true n sc) ps rc []
    → read_outcome (read_all true (begin_r true n sc) ps) ≡ Some (read_as n sc rc)
from_start n sc rc (bracket ps' b ph seen s e) =
    ap read_outcome
    (over_blanks true n (within_R n sc) (λ cs. dead) (law_R true n sc) start [] [] [] refl b
    ∙ moved true n (within_R n sc) (λ cs. dead) (law_R true n sc) start [] [] [] opening ps' _ refl
    ∙ e)
    ∙ read_R true n sc rc ph seen (settled_whole ph s)
from_start n sc rc (nothing t e b) =
    ap read_outcome (over_blanks true n (within_R n sc) (λ cs. dead) (law_R true n sc) start [] [] [] refl b)
    ∙ read_R true n sc [] start [] refl
    ∙ ap (λ (cs : List (List ℕ)). Some (read_as n sc cs)) (sym e)

accepted_with : (n : ℕ) (sc rc : List (List ℕ)) {ps mid : List CyclePiece}
    → Begun true n (within_S n) (begin_r true n) (law_S true n) ps sc (semicolon ∷ mid)
    → Begun true n (within_R n sc) (λ cs. dead) (law_R true n sc) mid rc []
    → read_outcome (read_all true (within_S n start [] [] []) ps) ≡ Some (read_as n sc rc)
accepted_with n sc rc {mid = mid} (bracket ps' b ph seen s e) a =
    ap read_outcome
    (over_blanks true n (within_S n) (begin_r true n) (law_S true n) start [] [] [] refl b
    ∙ moved true n (within_S n) (begin_r true n) (law_S true n) start [] [] [] opening ps' _ refl
    ∙ e
    ∙ moved true n (within_S n) (begin_r true n) (law_S true n) ph seen [] sc semicolon mid over (settled_semicolon n ph seen [] sc s))
    ∙ from_start n sc rc a
accepted_with n sc rc {mid = mid} (nothing t e b) a =
    ap read_outcome
    (over_blanks true n (within_S n) (begin_r true n) (law_S true n) start [] [] [] refl b
    ∙ moved true n (within_S n) (begin_r true n) (law_S true n) start [] [] [] semicolon mid over refl
    ∙ ap (λ (cs : List (List ℕ)). read_all true (begin_r true n cs) mid) (sym e))
    ∙ from_start n sc rc a

accepted_without : (n : ℕ) (sc rc : List (List ℕ)) {ps mid : List CyclePiece}
    → Begun false n (within_S n) (begin_r false n) (law_S false n) ps sc mid
    → Begun false n (within_R n sc) (λ cs. dead) (law_R false n sc) mid rc []
    → read_outcome (read_all false (within_S n start [] [] []) ps) ≡ Some (read_as n sc rc)
accepted_without n sc rc (bracket ps' b ph seen s e) (bracket qs' c ph' seen' s' e') =
    ap read_outcome
    (over_blanks false n (within_S n) (begin_r false n) (law_S false n) start [] [] [] refl b
    ∙ moved false n (within_S n) (begin_r false n) (law_S false n) start [] [] [] opening ps' _ refl
    ∙ e
    ∙ over_blanks false n (within_S n) (begin_r false n) (law_S false n) ph seen [] sc (settled_quiet false n ph seen sc s) c
    ∙ moved false n (within_S n) (begin_r false n) (law_S false n) ph seen [] sc opening qs' over (settled_opening n ph seen [] sc s)
    ∙ e')
    ∙ read_R false n sc rc ph' seen' (settled_whole ph' s')
accepted_without n sc rc (bracket ps' b ph seen s e) (nothing t e' c) = clash t refl
accepted_without n sc rc (nothing t e b) a = clash t refl

pub accepted : (ps : List CyclePiece) (n : ℕ) (sc rc : List (List ℕ)) (h : Right ps n sc rc) → read_outcome (read_all h.semi front ps) ≡ Some (read_as n sc rc)
accepted ps n sc rc h = go h.semi h.reading
  where
    go : (semi : Bool) → Reading semi ps n sc rc → read_outcome (read_all semi front ps) ≡ Some (read_as n sc rc)
    go true g =
        ap read_outcome (over_front true n h.index g.n_is)
        ∙ accepted_with n sc rc (written_begun true n (within_S n) (begin_r true n) (law_S true n) g.S_is h.points_S)
        (written_begun true n (within_R n sc) (λ cs. dead) (law_R true n sc) g.R_is h.points_R)
    go false g =
        ap read_outcome (over_front false n h.index g.n_is)
        ∙ accepted_without n sc rc (written_begun false n (within_S n) (begin_r false n) (law_S false n) g.S_is h.points_S)
        (written_begun false n (within_R n sc) (λ cs. dead) (law_R false n sc) g.R_is h.points_R)

-- ---- from the reader to the form

pub record Fronted (semi : Bool) (ps : List CyclePiece) (r : Read) : Type 0 where
  pub n : ℕ
  pub behind : List CyclePiece
  pub blanks : Blanks ps (number n ∷ behind)
  pub range : in_range n ≡ true
  pub read : read_outcome (read_all semi (within_S n start [] [] []) behind) ≡ Some r

fronted : (semi : Bool) (r : Read) (ps : List CyclePiece) → read_outcome (read_all semi front ps) ≡ Some r → Fronted semi ps r
unfolding read_all
fronted semi r [] e = no_read e
fronted semi r (number n ∷ ps) e = go (in_range n) refl
  where
    go : (b : Bool) → in_range n ≡ b → Fronted semi (number n ∷ ps) r
    go true f = record {
      n = n;
      behind = ps;
      blanks = here;
      range = f;
      read = sym (ap (λ (q : State). read_outcome (read_all semi q ps)) (pick_true (in_range n) _ _ f)) ∙ e;
    }
    go false f = no_read (sym (ap (λ (q : State). read_outcome (read_all semi q ps)) (pick_false (in_range n) _ _ f) ∙ ap read_outcome (run_dead semi ps)) ∙ e)
fronted semi r (blank ∷ ps) e = let f = fronted semi r ps e in
    record { n = f.n; behind = f.behind; blanks = past f.blanks; range = f.range; read = f.read }
fronted semi r (opening ∷ ps) e = no_read (sym (ap read_outcome (run_dead semi ps)) ∙ e)
fronted semi r (closing ∷ ps) e = no_read (sym (ap read_outcome (run_dead semi ps)) ∙ e)
fronted semi r (comma ∷ ps) e = no_read (sym (ap read_outcome (run_dead semi ps)) ∙ e)
fronted semi r (semicolon ∷ ps) e = no_read (sym (ap read_outcome (run_dead semi ps)) ∙ e)
fronted semi r (another ∷ ps) e = no_read (sym (ap read_outcome (run_dead semi ps)) ∙ e)

no_cycles : {ps rest : List CyclePiece} → Blanks ps rest → Cycles ps [] rest
no_cycles here = end
no_cycles (past b) = gap (no_cycles b)

behind_blanks : {ps mid rest : List CyclePiece} {cs : List (List ℕ)} → Blanks ps mid → Cycles mid cs rest → Cycles ps cs rest
behind_blanks here c = c
behind_blanks (past b) c = gap (behind_blanks b c)

enough : (semi : Bool) (c : List ℕ) (cs : List (List ℕ)) → (semi ≡ false → cs ≡ []) → Enough semi (c ∷ cs)
enough true c cs h = tt
enough false c cs h = rw (h refl)

module _ (semi : Bool) (n : ℕ) (within : Phase → (seen cur : List ℕ) → (done : List (List ℕ)) → State) (then : List (List ℕ) → State)
    (law : Steps semi n within then) (r : Read) (Ends : List (List ℕ) → Type 0)
    (ends : (ph : Phase) (seen cur : List ℕ) (done : List (List ℕ)) → read_outcome (within ph seen cur done) ≡ Some r → (may_end ph ≡ true) × Ends done) where
  pub record Wrote (ps : List CyclePiece) : Type 0 where
    pub cs : List (List ℕ)
    pub rest : List CyclePiece
    pub written : Written semi ps cs rest
    pub disjoint : Disjoint n [] (points_of cs)
    pub follow : Back.Follow semi n within then law r Ends ends cs rest

  opened_wrote : (ps : List CyclePiece) {ps' : List CyclePiece} → Blanks ps (opening ∷ ps') → Back.OpenedTail semi n within then law r Ends ends [] [] [] ps'
      → Wrote ps
  unfolding points_of
  opened_wrote ps b (Back.shut t) = record { cs = []; rest = t.rest; written = Form.identity b t.blanks; disjoint = all; follow = t.follow }
  opened_wrote ps b (Back.point_first (Back.named x f t)) = record {
    cs = (x ∷ t.xs) ∷ t.new;
    rest = t.rest;
    written = cycles (enough semi (x ∷ t.xs) t.new t.few) (behind_blanks b (cycle t.more t.cycles));
    disjoint = next f t.disjoint;
    follow = t.follow;
  }

  pub wrote_opened : (ps : List CyclePiece) → read_outcome (read_all semi (within opened [] [] []) ps) ≡ Some r → Wrote (opening ∷ ps)
  wrote_opened ps e = opened_wrote (opening ∷ ps) here (back semi n within then law r Ends ends ps opened [] [] [] e)

  -- from its beginning; nothing written needs a semicolon beside it
  start_wrote : (ps : List CyclePiece) → (semi ≡ true) ⊎ ((cs : List (List ℕ)) → ¬ Ends cs) → Back.StartTail semi n within then law r Ends ends [] [] [] ps
      → Wrote ps
  unfolding points_of
  start_wrote ps h (Back.bracket ps' b o) = opened_wrote ps b o
  start_wrote ps h (Back.nothing_more mid t b e) =
      let z : Back.separator semi ≡ semicolon = ap Back.separator t in
      record { cs = []; rest = semicolon ∷ mid; written = cycles {cs = []} (rw t tt) (no_cycles b); disjoint = all; follow = rw (← z) (Back.behind e) }
  start_wrote ps (inl t) (Back.nothing b e) =
      record { cs = []; rest = []; written = cycles {cs = []} (rw t tt) (no_cycles b); disjoint = all; follow = Back.ended e }
  start_wrote ps (inr h) (Back.nothing b e) = absurd (h [] e)

  pub wrote_start : (ps : List CyclePiece) → (semi ≡ true) ⊎ ((cs : List (List ℕ)) → ¬ Ends cs) → read_outcome (read_all semi (within start [] [] []) ps) ≡ Some r
      → Wrote ps
  wrote_start ps h e = start_wrote ps h (back semi n within then law r Ends ends ps start [] [] [] e)

-- S is never the end of a text, and R ends with what is read
no_end : (n : ℕ) (r : Read) (ph : Phase) (seen cur : List ℕ) (done : List (List ℕ)) → read_outcome (within_S n ph seen cur done) ≡ Some r → (may_end ph ≡ true) × ⊥
no_end n r ph seen cur done e = no_read e

its_end : (n : ℕ) (sc : List (List ℕ)) (r : Read) (ph : Phase) (seen cur : List ℕ) (done : List (List ℕ)) → read_outcome (within_R n sc ph seen cur done) ≡ Some r
    → (may_end ph ≡ true) × (read_as n sc done ≡ r)
its_end n sc r ph seen cur done e = go (may_end ph) refl
  where
    go : (b : Bool) → may_end ph ≡ b → (may_end ph ≡ true) × (read_as n sc done ≡ r)
    go true f = (f, let q = sym (pick_true (may_end ph) (Some (read_as n sc done)) None f) ∙ e in some_same q)
      where
        some_same : {a b : Read} → Some a ≡ Some b → a ≡ b
        some_same q = cc
    go false f = no_read (sym (pick_false (may_end ph) (Some (read_as n sc done)) None f) ∙ e)

module _ (r : Read) where
  abbrev ReadR : (n : ℕ) (sc : List (List ℕ)) → List (List ℕ) → Type 0
  ReadR n sc rc = read_as n sc rc ≡ r

  WroteS : (semi : Bool) (n : ℕ) (ps : List CyclePiece) → Type 0
  WroteS semi n ps = Wrote semi n (within_S n) (begin_r semi n) (law_S semi n) r (λ cs. ⊥) (no_end n r) ps

  WroteR : (semi : Bool) (n : ℕ) (sc : List (List ℕ)) (ps : List CyclePiece) → Type 0
  WroteR semi n sc ps = Wrote semi n (within_R n sc) (λ cs. dead) (law_R semi n sc) r (ReadR n sc) (its_end n sc r) ps

  -- the whole of R
  pub record WholeR (semi : Bool) (n : ℕ) (sc : List (List ℕ)) (ps : List CyclePiece) : Type 0 where
    pub rc : List (List ℕ)
    pub written : Written semi ps rc []
    pub disjoint : Disjoint n [] (points_of rc)
    pub is : read_as n sc rc ≡ r

  whole_R : (semi : Bool) (n : ℕ) (sc : List (List ℕ)) (ps : List CyclePiece) → WroteR semi n sc ps → WholeR semi n sc ps
  unfolding WroteR
  whole_R semi n sc ps w = go w.rest w.follow w.written
    where
      go : (rest : List CyclePiece) → Back.Follow semi n (within_R n sc) (λ cs. dead) (law_R semi n sc) r (ReadR n sc) (its_end n sc r) w.cs rest
          → Written semi ps w.cs rest → WholeR semi n sc ps
      go [] (Back.ended e) g = record { rc = w.cs; written = g; disjoint = w.disjoint; is = e }
      go (p ∷ mid) (Back.behind e) g = no_read (sym (ap read_outcome (run_dead semi mid)) ∙ e)

  assembled : (semi : Bool) {ps : List CyclePiece} (n : ℕ) (sc : List (List ℕ)) (behind mid : List CyclePiece) → Blanks ps (number n ∷ behind) → in_range n
      ≡ true
      → Written semi behind sc (behind_s semi mid) → Disjoint n [] (points_of sc) → WholeR semi n sc mid → Right ps r.index r.of_s r.of_r
  assembled semi {ps} n sc behind mid b i s d w =
      let h : Right ps n sc w.rc = record {
        semi = semi;
        reading = record { behind_n = behind; of_R = mid; n_is = b; S_is = s; R_is = w.written };
        index = i;
        points_S = d;
        points_R = w.disjoint;
      } in
      subst (λ (z : Read). Right ps z.index z.of_s z.of_r) w.is h

  right_with : {ps : List CyclePiece} → (f : Fronted true ps r) → WroteS true f.n f.behind → Right ps r.index r.of_s r.of_r
  unfolding WroteS WroteR
  right_with {ps} f w = go w.rest w.follow w.written
    where
      go : (rest : List CyclePiece)
          → Back.Follow true f.n (within_S f.n) (begin_r true f.n) (law_S true f.n) r (λ cs. ⊥) (no_end f.n r) w.cs rest
          → Written true f.behind w.cs rest → Right ps r.index r.of_s r.of_r
      go [] (Back.ended e) g = absurd e
      go (p ∷ rest) (Back.behind {mid} e) g =
          assembled true f.n w.cs f.behind mid f.blanks f.range g w.disjoint
          (whole_R true f.n w.cs mid
          (wrote_start true f.n (within_R f.n w.cs) (λ cs. dead) (law_R true f.n w.cs) r (ReadR f.n w.cs) (its_end f.n w.cs r) mid
          (inl refl) e))

  right_without : {ps : List CyclePiece} → (f : Fronted false ps r) → WroteS false f.n f.behind → Right ps r.index r.of_s r.of_r
  unfolding WroteS WroteR
  right_without {ps} f w = go w.rest w.follow w.written
    where
      go : (rest : List CyclePiece)
          → Back.Follow false f.n (within_S f.n) (begin_r false f.n) (law_S false f.n) r (λ cs. ⊥) (no_end f.n r) w.cs rest
          → Written false f.behind w.cs rest → Right ps r.index r.of_s r.of_r
      go [] (Back.ended e) g = absurd e
      go (p ∷ rest) (Back.behind {mid} e) g =
          assembled false f.n w.cs f.behind (opening ∷ mid) f.blanks f.range g w.disjoint
          (whole_R false f.n w.cs (opening ∷ mid)
          (wrote_opened false f.n (within_R f.n w.cs) (λ cs. dead) (law_R false f.n w.cs) r (ReadR f.n w.cs)
          (its_end f.n w.cs r) mid e))

  pub right_of : (semi : Bool) (ps : List CyclePiece) → read_outcome (read_all semi front ps) ≡ Some r → Right ps r.index r.of_s r.of_r
  unfolding WroteS
  right_of true ps e =
      let f = fronted true r ps e in
      right_with f (wrote_start true f.n (within_S f.n) (begin_r true f.n) (law_S true f.n) r (λ cs. ⊥) (no_end f.n r) f.behind (inl refl)
      f.read)
  right_of false ps e =
      let f = fronted false r ps e in
      right_without f (wrote_start false f.n (within_S f.n) (begin_r false f.n) (law_S false f.n) r (λ cs. ⊥) (no_end f.n r) f.behind
      (inr (λ cs h. h)) f.read)
