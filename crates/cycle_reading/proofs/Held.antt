-- The code's hand follows the reader, piece by piece: where it holds the reader's state, it holds the next one behind every piece.
-- Assumes nothing.
use mathlib.Core.Path.{◌≡◌, refl, sym, ap, subst, ◌∙◌}
use mathlib.Core.Logic.{◌⊎◌, inl, inr}
use mathlib.Core.Bool.{Bool, true, false, not, ◌&&◌}
use Rattle.std.specs.Prelude.{Option, None, Some, Result, Ok, Err}
use mathlib.Core.List.{List, [], ◌∷◌, ◌++◌}
use Prim.Native.Nat.{ℕ, suc, ◌-◌, ◌≤◌, ◌<◌, min}
use native.Mathlib.Omega.{arith}
use native.Mathlib.Decide.{dec_lt, ℕ_discrete}
use lib.Dec.{eqb, leb, ltb}
use lib.ListN.{get_or, set, length-set}
use lib.Seq.{get_or-set_same, get_or-set_other, set-set}
use borrow.Author.Tests.{lt-ltb, le-ltb, lt-leb, le-leb, eq-eqb, ne_eqb}
use Rattle.basics.specs.Choice.{pick}
use Rattle.basics.specs.Count.{first}
use Rattle.basics.proofs.Choice.{pick_true, pick_false}
use Rattle.basics.proofs.Count.{Clear, Found, search_first, first_clear, count_none, count_some, count_eq, count_without, without}
use Rattle.basics.proofs.Count.{without_other}
use Rattle.numbering.specs.Find.{is_in}
use Rattle.cycle_notation.specs.Piece.{CyclePiece, number, blank, opening, closing, comma, semicolon, another}
use Rattle.cycle_notation.specs.Form.{free}
use Rattle.cycle_notation.specs.Inner.Reader.{Phase, start, opened, empty, point, wanted, closed, room, PartTurn, on, over, stop, turn_of}
use Rattle.cycle_notation.specs.Inner.Stores.{links_stored, cycles_stored, identity, last_of}
use Rattle.cycle_notation.proofs.Points.{free_range, free_room}
use Rattle.cycle_notation.proofs.Stores.{is_in_cons, linked_last, stored_last, last_last}
use Rattle.cycle_reading.specs.declared.phases.Phase as code
use Rattle.cycle_reading.specs.declared.phases.Phase.TheVariants.{Empty, Wanted, Closed}
use Rattle.cycle_reading.specs.declared.phases.Stop.{Stop}
use Rattle.cycle_reading.specs.declared.phases.Stop.TheVariants.{Over, Lost}
use Rattle.cycle_reading.specs.declared.points.Cycle.{Cycle}
use Rattle.cycle_reading.specs.declared.points.Part.{Part}
use Rattle.cycle_reading.specs.Inner.Phases.{behind_blank, behind_opening, behind_closing, behind_comma, at_semicolon, takes_point}
use Rattle.cycle_reading.specs.Inner.Hand.{bounded, can_name, cycle_at, part_at, cycle_or, Hand, hand, moved, shut, named_hand, named_or, step_hand}
use Rattle.cycle_reading.specs.Inner.PartRun.{code_of, CycleUnderWay, ShutAt, HandHolds, made}
use Rattle.cycle_reading.proofs.Naming.{no_phase, by_room, too_low, too_high, marked, fits_or}

-- what the hand h holds behind a turn, which the step x makes
abbrev pub TurnHeld : ℕ → List (List ℕ) → Hand → PartTurn → Result Hand Stop → Type 0
TurnHeld n done h (on ph seen cur done') x = (g : Hand) × (x ≡ Ok g) × HandHolds n ph seen cur done' g
TurnHeld n done h over x = (x ≡ Err Over) × (h.table ≡ made done)
TurnHeld n done h stop x = x ≡ Err Lost

-- no open cycle changes nothing
pub none_open : (done : List (List ℕ)) (cur t : List ℕ) → cur ≡ [] → t ≡ made (done ++ (cur ∷ [])) → t ≡ made done
none_open done cur t e h =
    h ∙ ap (λ (c : List ℕ). made (done ++ (c ∷ []))) e ∙ stored_last done [] (identity 3066)

module _ (n : ℕ) (seen cur : List ℕ) (done : List (List ℕ)) (h : Hand) where
  abbrev at_phase : code.Phase → Hand
  at_phase k = hand (part_at k h.part.used h.part.cycle) h.marks h.table

  -- `)`: no cycle is open any more
  abbrev closed_hand : code.Phase → Hand
  closed_hand k = hand (part_at k h.part.used None) h.marks h.table

  moved_held : (ph : Phase) → HandHolds n ph seen cur done h → (ph' : Phase) (k : Result code.Phase Stop) → k ≡ Ok (code_of ph') → ShutAt ph' cur
      → TurnHeld n done h (on ph' seen cur done) (moved h k)
  moved_held ph H ph' k e s = (
    at_phase (code_of ph'),
    ap (moved h) e,
    record {
      phase = refl;
      marks = H.marks;
      marks_long = H.marks_long;
      used = H.used;
      table = H.table;
      fits = H.fits;
      cycle = H.cycle;
      shut = s;
    },
  )

  -- a permutation that may be over, before the piece that takes the reader on
  passes : (ph : Phase) → HandHolds n ph seen cur done h → cur ≡ [] → (x : Result Hand Stop) → x ≡ Err Over → TurnHeld n done h over x
  passes ph H s x e = (e, none_open done cur h.table s H.table)

  behind_quiet : (ph : Phase) → HandHolds n ph seen cur done h → cur ≡ [] → (b : Bool) (k : Stop) → k ≡ pick b Over Lost
      → TurnHeld n done h (pick b over stop) (Err k)
  behind_quiet ph H s true k e = passes ph H s (Err k) (ap Err e)
  behind_quiet ph H s false k e = ap Err e

  behind_empty : HandHolds n empty seen cur done h → (b : Bool) (k : Result code.Phase Stop) → k ≡ pick b (Err Lost) (Err Over)
      → TurnHeld n done h (pick b stop over) (moved h k)
  behind_empty H true k e = ap (moved h) e
  behind_empty H false k e = passes empty H H.shut (moved h k) (ap (moved h) e)

  -- a further cycle begins with none open
  anew : HandHolds n closed seen cur done h → (k : Result code.Phase Stop) → k ≡ Ok Wanted → TurnHeld n done h (on wanted seen [] done) (moved h k)
  anew H k e =
      subst (λ (c : List ℕ). TurnHeld n done h (on wanted seen c done) (moved h k)) H.shut (moved_held closed H wanted k e tt)

  behind_closed : HandHolds n closed seen cur done h → (b m : Bool) (k : Result code.Phase Stop) → k ≡ pick b (pick m (Ok Wanted) (Err Lost)) (Err Over)
      → TurnHeld n done h (pick b (pick m (on wanted seen [] done) stop) over) (moved h k)
  behind_closed H true true k e = anew H k e
  behind_closed H true false k e = ap (moved h) e
  behind_closed H false m k e = passes closed H H.shut (moved h k) (ap (moved h) e)

  behind_point : HandHolds n point seen cur done h → (m : Bool) (k : Result code.Phase Stop) → k ≡ pick m (Ok Wanted) (Err Lost)
      → TurnHeld n done h (pick m (on wanted seen cur done) stop) (moved h k)
  behind_point H true k e = moved_held point H wanted k e tt
  behind_point H false k e = ap (moved h) e

  shut_empty : HandHolds n opened seen cur done h → (k : Result code.Phase Stop) → k ≡ Ok Empty → TurnHeld n done h (on empty seen cur done) (shut h k)
  shut_empty H k e = (
    closed_hand Empty,
    ap (shut h) e,
    record {
      phase = refl;
      marks = H.marks;
      marks_long = H.marks_long;
      used = H.used;
      table = H.table;
      fits = tt;
      cycle = subst (λ (c : List ℕ). CycleUnderWay None c) (sym H.shut) refl;
      shut = H.shut;
    },
  )

  shut_closed : HandHolds n point seen cur done h → (k : Result code.Phase Stop) → k ≡ Ok Closed
      → TurnHeld n done h (on closed seen [] (done ++ (cur ∷ []))) (shut h k)
  shut_closed H k e = (
    closed_hand Closed,
    ap (shut h) e,
    record {
      phase = refl;
      marks = H.marks;
      marks_long = H.marks_long;
      used = H.used;
      table = H.table ∙ sym (stored_last (done ++ (cur ∷ [])) [] (identity 3066));
      fits = tt;
      cycle = refl;
      shut = refl;
    },
  )

  -- as many points are left as are free
  room_same' : (ph : Phase) → HandHolds n ph seen cur done h → ltb h.part.used n ≡ room n seen
  room_same' ph H = go (search_first (λ (i : ℕ). free n seen (suc i)) n)
    where
      go : Clear (λ (i : ℕ). free n seen (suc i)) n ⊎ Found (λ (i : ℕ). free n seen (suc i)) n → ltb h.part.used n ≡ room n seen
      go (inl c) =
          let z = count_none (λ (i : ℕ). free n seen (suc i)) n c in
          le-ltb h.part.used n (omega (arith, H.used))
          ∙ sym (le-ltb (first (λ (i : ℕ). free n seen (suc i)) n) n (omega (arith, first_clear (λ (i : ℕ). free n seen (suc i)) n c)))
      go (inr f) =
          let z = count_some (λ (i : ℕ). free n seen (suc i)) (first (λ (i : ℕ). free n seen (suc i)) n) n f.below f.passes in
          lt-ltb h.part.used n (omega (arith, H.used)) ∙ sym (lt-ltb (first (λ (i : ℕ). free n seen (suc i)) n) n f.below)

  no_number : (x : ℕ) (ph : Phase) → HandHolds n ph seen cur done h → takes_point (code_of ph) ≡ false → named_or n (min x 3067) h ≡ Err Lost
  no_number x ph H e =
      pick_false (can_name n (min x 3067) h.part h.marks) (Ok (named_hand h (min x 3067 - 1))) (Err Lost)
      (no_phase n (min x 3067) h.part h.marks (ap takes_point H.phase ∙ e))

pub room_same : (n : ℕ) (ph : Phase) (seen cur : List ℕ) (done : List (List ℕ)) (h : Hand) → HandHolds n ph seen cur done h → ltb h.part.used n
    ≡ room n seen
room_same n ph seen cur done h H = room_same' n seen cur done h ph H

never : (semi : Bool) → pick semi Lost Lost ≡ Lost
never true = refl
never false = refl

-- ---- a point

no_longer : (a b : Bool) → b ≡ true → (a && not b) ≡ false
no_longer true b e = ap not e
no_longer false b e = refl

module _ (n : ℕ) (n_most : n ≤ 3066) (seen cur : List ℕ) (done : List (List ℕ)) (h : Hand) (x : ℕ) where
  abbrev p : Part
  p = h.part

  -- the points that are free when x has been named
  fewer : 1 ≤ x → (i : ℕ) → free n (x ∷ seen) (suc i) ≡ without (x - 1) (λ (k : ℕ). free n seen (suc k)) i
  fewer low i = go (ℕ_discrete x (suc i))
    where
      go : Dec (x ≡ suc i) → free n (x ∷ seen) (suc i) ≡ without (x - 1) (λ (k : ℕ). free n seen (suc k)) i
      go (yes z) =
          let k : i ≡ x - 1 = omega arith in
          no_longer (leb 1 (suc i) && leb (suc i) n) (is_in (x ∷ seen) (suc i)) (is_in_cons x seen (suc i) ∙ pick_true (eqb x (suc i)) _ _ (eq-eqb x (suc i) z))
          ∙ sym (ap (λ (b : Bool). not b && free n seen (suc i)) (eq-eqb i (x - 1) k))
      go (no z) = other_point (λ k. z (omega arith))
        where
          other_point : ¬ (i ≡ x - 1) → free n (x ∷ seen) (suc i) ≡ without (x - 1) (λ (k : ℕ). free n seen (suc k)) i
          other_point ne =
              ap (λ (b : Bool). (leb 1 (suc i) && leb (suc i) n) && not b) (is_in_cons x seen (suc i) ∙ pick_false (eqb x (suc i)) _ _ (ne_eqb x (suc i) z))
              ∙ sym (without_other (x - 1) (λ (k : ℕ). free n seen (suc k)) i ne)

  linked_held : (c : List ℕ) → CycleUnderWay p.cycle c → h.table ≡ made (done ++ (c ∷ []))
      → set (set h.table (cycle_or p.cycle (x - 1)).last (x - 1)) (x - 1) (cycle_or p.cycle (x - 1)).first ≡ made (done ++ ((c ++ (x ∷ [])) ∷ []))
  unfolding links_stored
  linked_held [] g e =
      ap (λ (k : Option Cycle). set (set h.table (cycle_or k (x - 1)).last (x - 1)) (x - 1) (cycle_or k (x - 1)).first) g
      ∙ set-set h.table (x - 1) (x - 1) (x - 1)
      ∙ ap (λ (t : List ℕ). set t (x - 1) (x - 1)) (e ∙ stored_last done [] (identity 3066))
      ∙ sym (stored_last done (x ∷ []) (identity 3066))
  linked_held (a ∷ c) g e =
      ap (λ (k : Option Cycle). set (set h.table (cycle_or k (x - 1)).last (x - 1)) (x - 1) (cycle_or k (x - 1)).first) g
      ∙ ap (λ (t : List ℕ). set (set t (last_of a c - 1) (x - 1)) (x - 1) (a - 1)) (e ∙ stored_last done (a ∷ c) (identity 3066))
      ∙ sym (linked_last a a c (cycles_stored done (identity 3066)) x)
      ∙ sym (stored_last done (a ∷ (c ++ (x ∷ []))) (identity 3066))

  going_on : (c : List ℕ) → CycleUnderWay p.cycle c → CycleUnderWay (named_hand h (x - 1)).part.cycle (c ++ (x ∷ []))
  going_on [] g = ap (λ (k : Option Cycle). Some (cycle_at (cycle_or k (x - 1)).first (x - 1))) g
  going_on (a ∷ c) g =
      ap (λ (k : Option Cycle). Some (cycle_at (cycle_or k (x - 1)).first (x - 1))) g
      ∙ ap (λ (k : ℕ). Some (cycle_at (a - 1) (k - 1))) (sym (last_last a c x))

  point_held : (ph : Phase) → HandHolds n ph seen cur done h → free n seen x ≡ true → HandHolds n point (x ∷ seen) (cur ++ (x ∷ [])) done (named_hand h (x - 1))
  point_held ph H f =
      let r = free_range n seen x f in
      let g : free n seen (suc (x - 1)) ≡ true = let z : suc (x - 1) ≡ x = omega arith in ap (free n seen) z ∙ f in
      let a = count_eq (λ (i : ℕ). free n (x ∷ seen) (suc i)) (without (x - 1) (λ (k : ℕ). free n seen (suc k))) n (λ i l. fewer r.0 i) in
      let b = count_without (x - 1) (λ (k : ℕ). free n seen (suc k)) n (omega arith) g in
      record {
        phase = refl;
        marks = λ i l. marked_at r i l (ℕ_discrete i (x - 1));
        marks_long = length-set h.marks (x - 1) true ∙ H.marks_long;
        used = omega (arith, H.used, a, b);
        table = linked_held cur H.cycle H.table;
        fits = let k : x - 1 < 3066 = omega arith in ((fits_or p.cycle (x - 1) H.fits k).0, k);
        cycle = going_on cur H.cycle;
        shut = tt;
      }
    where
      marked_at : (1 ≤ x) × (x ≤ n) → (i : ℕ) → i < n → Dec (i ≡ x - 1) → get_or (set h.marks (x - 1) true) i false ≡ is_in (x ∷ seen) (suc i)
      marked_at r i l (yes z) =
          ap (λ (k : ℕ). get_or (set h.marks (x - 1) true) k false) z
          ∙ get_or-set_same h.marks (x - 1) true false (let e = H.marks_long in omega arith)
          ∙ sym (is_in_cons x seen (suc i) ∙ pick_true (eqb x (suc i)) true (is_in seen (suc i)) (eq-eqb x (suc i) (omega arith)))
      marked_at r i l (no z) =
          get_or-set_other h.marks (x - 1) i true false z
          ∙ H.marks i l
          ∙ sym (is_in_cons x seen (suc i) ∙ pick_false (eqb x (suc i)) true (is_in seen (suc i)) (ne_eqb x (suc i) (λ k. z (omega arith))))

  -- the code's tests are those of a free point; a number past 3,066 is as good as 3,067
  can_same : (ph : Phase) → HandHolds n ph seen cur done h → takes_point (code_of ph) ≡ true
      → can_name n (min x 3067) p h.marks ≡ free n seen x
  can_same ph H e = elim (dec_lt x 1) [
    | yes l ↦ too_low n (min x 3067) p h.marks tp (omega arith)
        ∙ sym (ap (λ (b : Bool). (b && leb x n) && not (is_in seen x)) (lt-leb 1 x l))
    | no l ↦ elim (dec_lt n x) [
      | yes k ↦ too_high n (min x 3067) p h.marks tp (omega arith) (omega arith)
          ∙ sym (ap (λ (b : Bool). (b && leb x n) && not (is_in seen x)) (le-leb 1 x (omega arith)) ∙ ap (λ (b : Bool). b && not (is_in seen x)) (lt-leb x n k))
      | no k ↦ ap (λ (y : ℕ). can_name n y p h.marks) (least (omega arith)) ∙ in_range (omega arith) (omega arith) (is_in seen x) refl
    ]
  ]
    where
      tp : takes_point p.phase ≡ true
      tp = ap takes_point H.phase ∙ e

      least : x ≤ 3067 → min x 3067 ≡ x
      least l = omega arith

      in_it : 1 ≤ x → x ≤ n → free n seen x ≡ not (is_in seen x)
      in_it a b = ap (λ (c : Bool). (c && leb x n) && not (is_in seen x)) (le-leb 1 x a) ∙ ap (λ (c : Bool). c && not (is_in seen x)) (le-leb x n b)

      mark_is : 1 ≤ x → x ≤ n → get_or h.marks (x - 1) false ≡ is_in seen x
      mark_is a b = let z : suc (x - 1) ≡ x = omega arith in H.marks (x - 1) (omega arith) ∙ ap (is_in seen) z

      in_range : 1 ≤ x → x ≤ n → (b : Bool) → is_in seen x ≡ b → can_name n x p h.marks ≡ free n seen x
      in_range a c true q = marked n x p h.marks tp a c (mark_is a c ∙ q) ∙ sym (in_it a c ∙ ap not q)
      in_range a c false q =
          let f : free n seen x ≡ true = in_it a c ∙ ap not q in
          by_room n x p h.marks tp a c (mark_is a c ∙ q)
          ∙ room_same n ph seen cur done h H ∙ free_room n seen x f ∙ sym f

  named_held : (ph : Phase) → HandHolds n ph seen cur done h → takes_point (code_of ph) ≡ true
      → TurnHeld n done h (pick (free n seen x) (on point (x ∷ seen) (cur ++ (x ∷ [])) done) stop) (named_or n (min x 3067) h)
  named_held ph H e = go (free n seen x) refl
    where
      go : (b : Bool) → free n seen x ≡ b → TurnHeld n done h (pick b (on point (x ∷ seen) (cur ++ (x ∷ [])) done) stop) (named_or n (min x 3067) h)
      go true f =
          let r = free_range n seen x f in
          let z : min x 3067 - 1 ≡ x - 1 = omega arith in (
            named_hand h (x - 1),
            pick_true (can_name n (min x 3067) p h.marks) (Ok (named_hand h (min x 3067 - 1))) (Err Lost) (can_same ph H e ∙ f)
                ∙ ap (λ (i : ℕ). Ok (named_hand h i)) z,
            point_held ph H f,
          )
      go false f =
          pick_false (can_name n (min x 3067) p h.marks) (Ok (named_hand h (min x 3067 - 1))) (Err Lost) (can_same ph H e ∙ f)

-- ---- every piece in every phase

pub turn_held : (semi : Bool) (n : ℕ) (n_most : n ≤ 3066) (seen cur : List ℕ) (done : List (List ℕ)) (h : Hand) (ph : Phase) (q : CyclePiece)
    → HandHolds n ph seen cur done h → TurnHeld n done h (turn_of semi n seen cur done ph q) (step_hand semi n h (bounded q))
turn_held semi n n_most seen cur done h start (number x) H = no_number n seen cur done h x start H refl
turn_held semi n n_most seen cur done h start blank H = moved_held n seen cur done h start H start _ (ap behind_blank H.phase) H.shut
turn_held semi n n_most seen cur done h start opening H = moved_held n seen cur done h start H opened _ (ap (behind_opening semi (ltb h.part.used n)) H.phase) H.shut
turn_held semi n n_most seen cur done h start closing H = ap (λ (k : code.Phase). shut h (behind_closing k)) H.phase
turn_held semi n n_most seen cur done h start comma H = ap (λ (k : code.Phase). moved h (behind_comma (ltb h.part.used n) k)) H.phase
turn_held semi n n_most seen cur done h start semicolon H = behind_quiet n seen cur done h start H H.shut semi _ (ap (at_semicolon semi) H.phase)
turn_held semi n n_most seen cur done h start another H = refl
turn_held semi n n_most seen cur done h opened (number x) H = named_held n n_most seen cur done h x opened H refl
turn_held semi n n_most seen cur done h opened blank H = ap (λ (k : code.Phase). moved h (behind_blank k)) H.phase
turn_held semi n n_most seen cur done h opened opening H = ap (λ (k : code.Phase). moved h (behind_opening semi (ltb h.part.used n) k)) H.phase
turn_held semi n n_most seen cur done h opened closing H = shut_empty n seen cur done h H _ (ap behind_closing H.phase)
turn_held semi n n_most seen cur done h opened comma H = ap (λ (k : code.Phase). moved h (behind_comma (ltb h.part.used n) k)) H.phase
turn_held semi n n_most seen cur done h opened semicolon H = ap Err (ap (at_semicolon semi) H.phase ∙ never semi)
turn_held semi n n_most seen cur done h opened another H = refl
turn_held semi n n_most seen cur done h empty (number x) H = no_number n seen cur done h x empty H refl
turn_held semi n n_most seen cur done h empty blank H = moved_held n seen cur done h empty H empty _ (ap behind_blank H.phase) H.shut
turn_held semi n n_most seen cur done h empty opening H = behind_empty n seen cur done h H semi _ (ap (behind_opening semi (ltb h.part.used n)) H.phase)
turn_held semi n n_most seen cur done h empty closing H = ap (λ (k : code.Phase). shut h (behind_closing k)) H.phase
turn_held semi n n_most seen cur done h empty comma H = ap (λ (k : code.Phase). moved h (behind_comma (ltb h.part.used n) k)) H.phase
turn_held semi n n_most seen cur done h empty semicolon H = behind_quiet n seen cur done h empty H H.shut semi _ (ap (at_semicolon semi) H.phase)
turn_held semi n n_most seen cur done h empty another H = refl
turn_held semi n n_most seen cur done h point (number x) H = no_number n seen cur done h x point H refl
turn_held semi n n_most seen cur done h point blank H = ap (λ (k : code.Phase). moved h (behind_blank k)) H.phase
turn_held semi n n_most seen cur done h point opening H = ap (λ (k : code.Phase). moved h (behind_opening semi (ltb h.part.used n) k)) H.phase
turn_held semi n n_most seen cur done h point closing H = shut_closed n seen cur done h H _ (ap behind_closing H.phase)
turn_held semi n n_most seen cur done h point comma H =
    behind_point n seen cur done h H (room n seen) _
    (ap (behind_comma (ltb h.part.used n)) H.phase ∙ ap (λ (m : Bool). pick m (Ok Wanted) (Err Lost)) (room_same n point seen cur done h H))
turn_held semi n n_most seen cur done h point semicolon H = ap Err (ap (at_semicolon semi) H.phase ∙ never semi)
turn_held semi n n_most seen cur done h point another H = refl
turn_held semi n n_most seen cur done h wanted (number x) H = named_held n n_most seen cur done h x wanted H refl
turn_held semi n n_most seen cur done h wanted blank H = ap (λ (k : code.Phase). moved h (behind_blank k)) H.phase
turn_held semi n n_most seen cur done h wanted opening H = ap (λ (k : code.Phase). moved h (behind_opening semi (ltb h.part.used n) k)) H.phase
turn_held semi n n_most seen cur done h wanted closing H = ap (λ (k : code.Phase). shut h (behind_closing k)) H.phase
turn_held semi n n_most seen cur done h wanted comma H = ap (λ (k : code.Phase). moved h (behind_comma (ltb h.part.used n) k)) H.phase
turn_held semi n n_most seen cur done h wanted semicolon H = ap Err (ap (at_semicolon semi) H.phase ∙ never semi)
turn_held semi n n_most seen cur done h wanted another H = refl
turn_held semi n n_most seen cur done h closed (number x) H = no_number n seen cur done h x closed H refl
turn_held semi n n_most seen cur done h closed blank H = moved_held n seen cur done h closed H closed _ (ap behind_blank H.phase) H.shut
turn_held semi n n_most seen cur done h closed opening H =
    behind_closed n seen cur done h H semi (room n seen) _
    (ap (behind_opening semi (ltb h.part.used n)) H.phase
    ∙ ap (λ (m : Bool). pick semi (pick m (Ok Wanted) (Err Lost)) (Err Over)) (room_same n closed seen cur done h H))
turn_held semi n n_most seen cur done h closed closing H = ap (λ (k : code.Phase). shut h (behind_closing k)) H.phase
turn_held semi n n_most seen cur done h closed comma H = ap (λ (k : code.Phase). moved h (behind_comma (ltb h.part.used n) k)) H.phase
turn_held semi n n_most seen cur done h closed semicolon H = behind_quiet n seen cur done h closed H H.shut semi _ (ap (at_semicolon semi) H.phase)
turn_held semi n n_most seen cur done h closed another H = refl
