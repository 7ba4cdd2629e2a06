-- The loop over the pieces of a permutation: its start, a turn, and its ends.
-- Assumes nothing.
use mathlib.Core.Path.{◌≡◌, refl, sym, ap, subst, ◌∙◌}
use mathlib.Core.Bool.{Bool, true, false, not, ◌&&◌}
use Rattle.std.specs.Prelude.{None, Result, Ok, Err}
use mathlib.Core.List.{List, [], ◌∷◌}
use Prim.Native.Nat.{ℕ, zero, suc, ◌+◌, ◌≤◌, ◌<◌}
use native.Mathlib.Omega.{arith}
use native.Mathlib.Decide.{ℕ_discrete}
use lib.Dec.{leb}
use lib.ListN.{length, get_or, set, drop, replicate, length-replicate}
use lib.Seq.{drop-length, get_or-set_same, get_or-set_other, ext_get_or}
use borrow.Author.Tests.{le-leb}
use Rattle.basics.specs.Count.{count}
use Rattle.basics.proofs.Choice.{clash}
use Rattle.basics.proofs.Count.{count_yes}
use Rattle.numbering.specs.Find.{is_in}
use Rattle.cycle_notation.specs.Piece.{CyclePiece, PlacedPiece, cycle_pieces_from}
use Rattle.cycle_notation.specs.Form.{free}
use Rattle.cycle_notation.specs.Inner.Reader.{Phase, start, opened, empty, point, wanted, closed, PartTurn, on, over, stop, turn_of, may_end}
use Rattle.cycle_notation.specs.Table.{tabled}
use Rattle.cycle_notation.specs.Inner.Stores.{cycles_stored, identity}
use Rattle.cycle_notation.proofs.Stores.{length_tabled, get_d_tabled, not_in_none}
use Rattle.cycle_reading.specs.declared.Found.{Found}
use Rattle.cycle_reading.specs.declared.PartEnd.{PartEnd}
use Rattle.cycle_reading.specs.declared.PartEnd.TheVariants as ending
use Rattle.cycle_reading.specs.declared.phases.Phase as code
use Rattle.cycle_reading.specs.declared.phases.Phase.TheVariants.{Start, Opened, Empty, Point, Wanted, Closed}
use Rattle.cycle_reading.specs.declared.phases.Stop.{Stop}
use Rattle.cycle_reading.specs.declared.phases.Stop.TheVariants.{Over, Lost}
use Rattle.cycle_reading.specs.declared.points.Part.{Part}
use Rattle.cycle_reading.specs.Inner.Phases.{is_quiet}
use Rattle.cycle_reading.specs.Inner.Hand.{piece_of, pieces_left, bounded, FoundAt, part_at, Hand, hand, step_hand, hand_part, hand_left, Stepped}
use Rattle.cycle_reading.specs.Inner.PartRun.{PartOut, lost, passed, part_run, part_end_of, Kept, code_of, phase_of, ShutAt, HandHolds, ReadTo, PartRead}
use Rattle.cycle_reading.proofs.Held.{TurnHeld, turn_held, none_open}

clash_of : {X : Type 0} → ◌≡◌ {A = ℕ} 0 1 → X
clash_of e = absurd (omega arith)

-- what a turn leads to
abbrev pub run_after : (semi : Bool) (n : ℕ) → (done : List (List ℕ)) → ℕ → List PlacedPiece → PartTurn → PartOut
run_after semi n done at ps (on ph seen cur done') = part_run semi n ph seen cur done' ps
run_after semi n done at ps over = passed at done
run_after semi n done at ps stop = lost at

pub run_turn : (semi : Bool) (n : ℕ) (ph : Phase) (seen cur : List ℕ) (done : List (List ℕ)) (q : PlacedPiece) (ps : List PlacedPiece) (u : PartTurn)
    → turn_of semi n seen cur done ph q.piece ≡ u → part_run semi n ph seen cur done (q ∷ ps) ≡ run_after semi n done q.at ps u
unfolding part_run
run_turn semi n ph seen cur done q ps (on ph' seen' cur' done') e = rw (part_run, e)
run_turn semi n ph seen cur done q ps over e = rw (part_run, e)
run_turn semi n ph seen cur done q ps stop e = rw (part_run, e)

module _ (semi : Bool) (n : ℕ) (n_most : n ≤ 3066) (ph₀ : Phase) (t : List ℕ) (from at : ℕ) (p : Part) (marks : List Bool) (table : List ℕ)
    (R : ReadTo semi n ph₀ t from at p marks table) (found : Found) (F : FoundAt t at found) (o : Result Part Stop) (marks' : List Bool) (table' : List ℕ)
    (S : Stepped (hand p marks table) (step_hand semi n (hand p marks table) (piece_of found.piece)) o marks' table') where
  abbrev step : Result Hand Stop
  step = step_hand semi n (hand p marks table) (piece_of found.piece)

  held_after : (v : PartTurn) → turn_of semi n R.seen R.cur R.done R.ph F.piece ≡ v → TurnHeld n R.done (hand p marks table) v step
  held_after v e =
      subst (λ (q : CyclePiece). TurnHeld n R.done (hand p marks table) v (step_hand semi n (hand p marks table) q)) (sym F.kind)
      (subst (λ (w : PartTurn). TurnHeld n R.done (hand p marks table) w (step_hand semi n (hand p marks table) (bounded F.piece))) e
      (turn_held semi n n_most R.seen R.cur R.done (hand p marks table) R.ph F.piece R.holds))

  all_after : (v : PartTurn) → turn_of semi n R.seen R.cur R.done R.ph F.piece ≡ v
      → run_after semi n R.done at (pieces_left t found.to) v ≡ part_run semi n ph₀ [] [] [] (pieces_left t from)
  all_after v e =
      sym (ap (part_run semi n R.ph R.seen R.cur R.done) F.here
      ∙ run_turn semi n R.ph R.seen R.cur R.done (record { at = at; piece = F.piece }) (pieces_left t found.to) v e)
      ∙ R.same

  -- what the code answers, by the step
  answer_is : (x : Result Hand Stop) → step ≡ x → o ≡ hand_part x
  answer_is x e = S.part_is ∙ ap hand_part e

  hand_is : (p' : Part) (g : Hand) → step ≡ Ok g → o ≡ Ok p' → g ≡ hand p' marks' table'
  hand_is p' g e f =
      let k : p' ≡ g.part = same (sym f ∙ answer_is (Ok g) e) in
      sym (ap (λ (z : Part). hand z marks' table') k
      ∙ ap (λ (z : List Bool). hand g.part z table') (S.marks_are ∙ ap (λ (x : Result Hand Stop). (hand_left (hand p marks table) x).marks) e)
      ∙ ap (λ (z : List ℕ). hand g.part g.marks z) (S.table_is ∙ ap (λ (x : Result Hand Stop). (hand_left (hand p marks table) x).table) e))
    where
      same : {a b : Part} → ◌≡◌ {A = Result Part Stop} (Ok a) (Ok b) → a ≡ b
      same e = cc

  pub again : (p' : Part) → o ≡ Ok p' → ReadTo semi n ph₀ t from found.to p' marks' table'
  again p' f = go (turn_of semi n R.seen R.cur R.done R.ph F.piece) refl
    where
      go : (v : PartTurn) → turn_of semi n R.seen R.cur R.done R.ph F.piece ≡ v → ReadTo semi n ph₀ t from found.to p' marks' table'
      go (on ph seen cur done) e =
          let H = held_after (on ph seen cur done) e in
          record {
            ph = ph;
            seen = seen;
            cur = cur;
            done = done;
            holds = subst (λ (g : Hand). HandHolds n ph seen cur done g) (hand_is p' H.0 H.1 f) H.2;
            same = all_after (on ph seen cur done) e;
            within = F.inside;
          }
      go over e = let z : ◌≡◌ {A = Result Part Stop} (Ok p') (Err Over) = sym f ∙ answer_is (Err Over) (held_after over e).0 in clash_of (cc)
      go stop e = let z : ◌≡◌ {A = Result Part Stop} (Ok p') (Err Lost) = sym f ∙ answer_is (Err Lost) (held_after stop e) in clash_of (cc)

  read_as_lem : (out : PartOut) → out ≡ part_run semi n ph₀ [] [] [] (pieces_left t from) → (r : PartEnd) → r ≡ part_end_of out → Kept out table'
      → PartRead (part_run semi n ph₀ [] [] [] (pieces_left t from)) r table'
  read_as_lem out e r f k = subst (λ (o : PartOut). PartRead o r table') e (record { returned = f; kept = k })

  pub lost_here : o ≡ Err Lost → PartRead (part_run semi n ph₀ [] [] [] (pieces_left t from)) (ending.Lost at) table'
  lost_here f = go (turn_of semi n R.seen R.cur R.done R.ph F.piece) refl
    where
      go : (v : PartTurn) → turn_of semi n R.seen R.cur R.done R.ph F.piece ≡ v
          → PartRead (part_run semi n ph₀ [] [] [] (pieces_left t from)) (ending.Lost at) table'
      go (on ph seen cur done) e =
          let H = held_after (on ph seen cur done) e in
          let z : ◌≡◌ {A = Result Part Stop} (Err Lost) (Ok H.0.part) = sym f ∙ answer_is (Ok H.0) H.1 in clash_of (cc)
      go over e = let z : ◌≡◌ {A = Result Part Stop} (Err Lost) (Err Over) = sym f ∙ answer_is (Err Over) (held_after over e).0 in clash_of (cc)
      go stop e = read_as_lem (lost at) (all_after stop e) (ending.Lost at) refl tt

  pub over_here : o ≡ Err Over → PartRead (part_run semi n ph₀ [] [] [] (pieces_left t from)) (ending.Over at) table'
  over_here f = go (turn_of semi n R.seen R.cur R.done R.ph F.piece) refl
    where
      go : (v : PartTurn) → turn_of semi n R.seen R.cur R.done R.ph F.piece ≡ v
          → PartRead (part_run semi n ph₀ [] [] [] (pieces_left t from)) (ending.Over at) table'
      go (on ph seen cur done) e =
          let H = held_after (on ph seen cur done) e in
          let z : ◌≡◌ {A = Result Part Stop} (Err Over) (Ok H.0.part) = sym f ∙ answer_is (Ok H.0) H.1 in clash_of (cc)
      go over e =
          let H = held_after over e in
          read_as_lem (passed at R.done) (all_after over e) (ending.Over at) refl
          (S.table_is ∙ ap (λ (x : Result Hand Stop). (hand_left (hand p marks table) x).table) H.0 ∙ H.1)
      go stop e = let z : ◌≡◌ {A = Result Part Stop} (Err Over) (Err Lost) = sym f ∙ answer_is (Err Lost) (held_after stop e) in clash_of (cc)

-- the text's end
quiet_whole : (ph : Phase) → is_quiet (code_of ph) ≡ may_end ph
quiet_whole start = refl
quiet_whole opened = refl
quiet_whole empty = refl
quiet_whole point = refl
quiet_whole wanted = refl
quiet_whole closed = refl

whole_shut : (ph : Phase) (cur : List ℕ) → ShutAt ph cur → may_end ph ≡ true → cur ≡ []
whole_shut start cur s e = s
whole_shut opened cur s e = s
whole_shut empty cur s e = s
whole_shut point cur s e = clash e refl
whole_shut wanted cur s e = clash e refl
whole_shut closed cur s e = s

pub none_left : (t : List ℕ) (at : ℕ) → at ≡ length t → pieces_left t at ≡ []
unfolding pieces_left cycle_pieces_from
none_left t at e = ap (λ (k : ℕ). cycle_pieces_from k false (drop k t)) e ∙ ap (cycle_pieces_from (length t) false) (drop-length t)

pub ended_here : (semi : Bool) (n : ℕ) (ph₀ : Phase) (t : List ℕ) (from at : ℕ) (p : Part) (marks : List Bool) (table : List ℕ)
    → ReadTo semi n ph₀ t from at p marks table → at ≡ length t → (b : Bool) → b ≡ is_quiet p.phase
    → PartRead (part_run semi n ph₀ [] [] [] (pieces_left t from)) (ending.Ended b) table
unfolding part_run
ended_here semi n ph₀ t from at p marks table R e b q =
    subst (λ (o : PartOut). PartRead o (ending.Ended b) table)
    (sym (ap (part_run semi n R.ph R.seen R.cur R.done) (none_left t at e)) ∙ R.same)
    (record {
      returned = ap ending.Ended (q ∙ ap is_quiet R.holds.phase ∙ quiet_whole R.ph);
      kept = λ w. none_open R.done R.cur table (whole_shut R.ph R.cur R.holds.shut w) R.holds.table;
    })

-- ---- the beginning

count_all : (f : ℕ → Bool) (n : ℕ) → ((i : ℕ) → i < n → f i ≡ true) → count f n ≡ n
count_all f zero h = refl
count_all f (suc n) h = count_yes f n (h n (omega arith)) ∙ (let z = count_all f n (λ i l. h i (omega arith)) in omega arith)

all_free : (n i : ℕ) → i < n → free n [] (suc i) ≡ true
all_free n i l =
    ap (λ (b : Bool). (b && leb (suc i) n) && not (is_in [] (suc i))) (le-leb 1 (suc i) (omega arith))
    ∙ ap (λ (b : Bool). b && not (is_in [] (suc i))) (le-leb (suc i) n l)
    ∙ ap not (not_in_none (suc i))

no_mark : (m i : ℕ) → get_or (replicate m false) i false ≡ false
no_mark zero i = refl
no_mark (suc m) zero = refl
no_mark (suc m) (suc i) = no_mark m i

code_phase : (first : code.Phase) → first ≡ code_of (phase_of first)
code_phase Start = refl
code_phase Opened = refl
code_phase Empty = refl
code_phase Point = refl
code_phase Wanted = refl
code_phase Closed = refl

begin_shut : (ph : Phase) → ShutAt ph []
begin_shut start = refl
begin_shut opened = refl
begin_shut empty = refl
begin_shut point = tt
begin_shut wanted = tt
begin_shut closed = refl

pub begun : (semi : Bool) (n : ℕ) (first : code.Phase) (t : List ℕ) (from : ℕ) (table : List ℕ) → from ≤ length t → table ≡ identity 3066
    → ReadTo semi n (phase_of first) t from from (part_at first 0 None) (replicate 3066 false) table
unfolding cycles_stored identity
begun semi n first t from table within e =
    let all_of = count_all (λ (i : ℕ). free n [] (suc i)) n (all_free n) in record {
      ph = phase_of first;
      seen = [];
      cur = [];
      done = [];
      holds = record {
        phase = code_phase first;
        marks = λ i k. no_mark 3066 i ∙ sym (not_in_none (suc i));
        marks_long = length-replicate 3066 false;
        used = omega (arith, all_of);
        table = e;
        fits = tt;
        cycle = refl;
        shut = begin_shut (phase_of first);
      };
      same = refl;
      within = within;
    }

-- ---- the table that moves nothing

pub filled_more : (t : List ℕ) (i : ℕ) → i < length t → ((k : ℕ) → k < i → get_or t k 0 ≡ k) → (k : ℕ) → k < i + 1 → get_or (set t i i) k 0 ≡ k
filled_more t i l h k m = elim (ℕ_discrete k i) [
  | yes z ↦ ap (λ (j : ℕ). get_or (set t i i) j 0) z ∙ get_or-set_same t i i 0 l ∙ sym z
  | no z ↦ get_or-set_other t i k i 0 z ∙ h k (omega arith)
]

pub filled : (t : List ℕ) (m : ℕ) → length t ≡ m → ((k : ℕ) → k < m → get_or t k 0 ≡ k) → t ≡ identity m
unfolding identity
filled t m e h =
    ext_get_or 0 t (tabled (λ (i : ℕ). i) m) (e ∙ sym (length_tabled (λ (i : ℕ). i) m))
    (λ i l. h i (omega (arith, e)) ∙ sym (get_d_tabled (λ (k : ℕ). k) m i 0 (omega (arith, e))))
