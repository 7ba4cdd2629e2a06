-- A reader that is not lost can still be brought to an end: which pieces can be completed.
--     completes-alive, alive-completes    some ending makes the pieces right exactly when one of the two readers is not lost behind them
-- Assumes nothing.
use Rattle.std.specs.Prelude.{Some}
use mathlib.Core.Path.{◌≡◌, refl, sym, ap, ◌∙◌}
use mathlib.Core.Bool.{Bool, true, false}
use mathlib.Core.List.{List, [], ◌∷◌, ◌++◌}
use Prim.Native.Nat.{ℕ}
use Rattle.basics.specs.Choice.{pick}
use Rattle.basics.proofs.Choice.{pick_true, clash}
use Rattle.cycle_notation.specs.Piece.{CyclePiece, number, blank, opening, closing, comma, semicolon, another}
use Rattle.cycle_notation.specs.Form.{free, in_range, Completes}
use Rattle.cycle_notation.specs.Verdict.{Read}
use Rattle.cycle_notation.specs.Inner.Reader.{Phase, start, opened, empty, point, wanted, closed, room, PartTurn, on, over, stop, turn_of, State, front}
use Rattle.cycle_notation.specs.Inner.Reader.{within_S, within_R, dead, WithinPart, after, begin_r, indexed, read_piece, read_all, read_outcome, may_end, is_dead}
use Rattle.cycle_notation.proofs.Points.{no_read, room_point}
use Rattle.cycle_notation.proofs.Along.{Steps, Settled, behind_identity, behind_cycle, moved, over_wanted}
use Rattle.cycle_notation.proofs.Back.{run_dead}
use Rattle.cycle_notation.proofs.Whole.{law_S, law_R, accepted, right_of, settled_whole, settled_semicolon, settled_opening, read_as}

pub run_append : (semi : Bool) (q : State) (ps qs : List CyclePiece) → read_all semi q (ps ++ qs) ≡ read_all semi (read_all semi q ps) qs
unfolding read_all
run_append semi q [] qs = refl
run_append semi q (p ∷ ps) qs = run_append semi (read_piece semi q p) ps qs

-- ---- where a point is wanted, one is free

abbrev pub SanePhase : ℕ → List ℕ → Phase → Type 0
SanePhase n seen start = Unit {0}
SanePhase n seen opened = Unit {0}
SanePhase n seen empty = Unit {0}
SanePhase n seen point = Unit {0}
SanePhase n seen wanted = room n seen ≡ true
SanePhase n seen closed = Unit {0}

abbrev SaneTurn : ℕ → PartTurn → Type 0
SaneTurn n (on ph seen cur done) = SanePhase n seen ph
SaneTurn n over = Unit {0}
SaneTurn n stop = Unit {0}

abbrev pub Sane : State → Type 0
Sane front = Unit {0}
Sane (within_S n ph seen cur done) = SanePhase n seen ph
Sane (within_R n sc ph seen cur done) = SanePhase n seen ph
Sane dead = Unit {0}

sane_pick : (n : ℕ) (b : Bool) (t : PartTurn) → (b ≡ true → SaneTurn n t) → SaneTurn n (pick b t stop)
sane_pick n true t h = h refl
sane_pick n false t h = tt

sane_choice : (n : ℕ) (b : Bool) (t u : PartTurn) → SaneTurn n t → SaneTurn n u → SaneTurn n (pick b t u)
sane_choice n true t u h k = h
sane_choice n false t u h k = k

turn_sane : (semi : Bool) (n : ℕ) (seen cur : List ℕ) (done : List (List ℕ)) (ph : Phase) (p : CyclePiece) → SaneTurn n (turn_of semi n seen cur done ph p)
turn_sane semi n seen cur done start (number x) = tt
turn_sane semi n seen cur done start blank = tt
turn_sane semi n seen cur done start opening = tt
turn_sane semi n seen cur done start closing = tt
turn_sane semi n seen cur done start comma = tt
turn_sane semi n seen cur done start semicolon = sane_choice n semi over stop tt tt
turn_sane semi n seen cur done start another = tt
turn_sane semi n seen cur done opened (number x) = sane_pick n (free n seen x) (on point (x ∷ seen) (cur ++ (x ∷ [])) done) (λ e. tt)
turn_sane semi n seen cur done opened blank = tt
turn_sane semi n seen cur done opened opening = tt
turn_sane semi n seen cur done opened closing = tt
turn_sane semi n seen cur done opened comma = tt
turn_sane semi n seen cur done opened semicolon = tt
turn_sane semi n seen cur done opened another = tt
turn_sane semi n seen cur done empty (number x) = tt
turn_sane semi n seen cur done empty blank = tt
turn_sane semi n seen cur done empty opening = sane_choice n semi stop over tt tt
turn_sane semi n seen cur done empty closing = tt
turn_sane semi n seen cur done empty comma = tt
turn_sane semi n seen cur done empty semicolon = sane_choice n semi over stop tt tt
turn_sane semi n seen cur done empty another = tt
turn_sane semi n seen cur done point (number x) = tt
turn_sane semi n seen cur done point blank = tt
turn_sane semi n seen cur done point opening = tt
turn_sane semi n seen cur done point closing = tt
turn_sane semi n seen cur done point comma = sane_pick n (room n seen) (on wanted seen cur done) (λ e. e)
turn_sane semi n seen cur done point semicolon = tt
turn_sane semi n seen cur done point another = tt
turn_sane semi n seen cur done wanted (number x) = sane_pick n (free n seen x) (on point (x ∷ seen) (cur ++ (x ∷ [])) done) (λ e. tt)
turn_sane semi n seen cur done wanted blank = tt
turn_sane semi n seen cur done wanted opening = tt
turn_sane semi n seen cur done wanted closing = tt
turn_sane semi n seen cur done wanted comma = tt
turn_sane semi n seen cur done wanted semicolon = tt
turn_sane semi n seen cur done wanted another = tt
turn_sane semi n seen cur done closed (number x) = tt
turn_sane semi n seen cur done closed blank = tt
turn_sane semi n seen cur done closed opening = sane_choice n semi (pick (room n seen) (on wanted seen [] done) stop) over
    (sane_pick n (room n seen) (on wanted seen [] done) (λ e. e)) tt
turn_sane semi n seen cur done closed closing = tt
turn_sane semi n seen cur done closed comma = tt
turn_sane semi n seen cur done closed semicolon = sane_choice n semi over stop tt tt
turn_sane semi n seen cur done closed another = tt

sane_S : (n : ℕ) (q : State) (t : PartTurn) → Sane q → SaneTurn n t → Sane (after (within_S n) q t)
sane_S n q (on ph seen cur done) h k = k
sane_S n q over h k = h
sane_S n q stop h k = tt

sane_R : (n : ℕ) (sc : List (List ℕ)) (q : State) (t : PartTurn) → Sane q → SaneTurn n t → Sane (after (within_R n sc) q t)
sane_R n sc q (on ph seen cur done) h k = k
sane_R n sc q over h k = h
sane_R n sc q stop h k = tt

sane_begin : (semi : Bool) (n : ℕ) (sc : List (List ℕ)) → Sane (begin_r semi n sc)
sane_begin true n sc = tt
sane_begin false n sc = tt

sane_indexed : (p : CyclePiece) → Sane (indexed p)
sane_indexed (number n) = go (in_range n)
  where
    go : (b : Bool) → Sane (pick b (within_S n start [] [] []) dead)
    go true = tt
    go false = tt
sane_indexed blank = tt
sane_indexed opening = tt
sane_indexed closing = tt
sane_indexed comma = tt
sane_indexed semicolon = tt
sane_indexed another = tt

sane_step : (semi : Bool) (q : State) (p : CyclePiece) → Sane (read_piece semi q p)
sane_step semi front p = sane_indexed p
sane_step semi (within_S n ph seen cur done) p = sane_S n (begin_r semi n done) (turn_of semi n seen cur done ph p) (sane_begin semi n done)
    (turn_sane semi n seen cur done ph p)
sane_step semi (within_R n sc ph seen cur done) p = sane_R n sc dead (turn_of semi n seen cur done ph p) tt (turn_sane semi n seen cur done ph p)
sane_step semi dead p = tt

sane_run : (semi : Bool) (q : State) (ps : List CyclePiece) → Sane q → Sane (read_all semi q ps)
unfolding read_all
sane_run semi q [] h = h
sane_run semi q (p ∷ ps) h = sane_run semi (read_piece semi q p) ps (sane_step semi q p)

-- ---- endings

-- some pieces bring a permutation to its end
pub record Finish (semi : Bool) (within : WithinPart) (q : State) : Type 0 where
  pub ending : List CyclePiece
  pub ph : Phase
  pub seen : List ℕ
  pub cur : List ℕ
  pub done : List (List ℕ)
  pub settled : Settled ph
  pub runs : read_all semi q ending ≡ within ph seen cur done

module _ (semi : Bool) (n : ℕ) (within : WithinPart) (then : List (List ℕ) → State) (law : Steps semi n within then) where
  finish : (ph : Phase) (seen cur : List ℕ) (done : List (List ℕ)) → SanePhase n seen ph → Finish semi within (within ph seen cur done)
  unfolding read_all
  finish start seen cur done h = record {
    ending = opening ∷ closing ∷ [];
    ph = empty;
    seen = seen;
    cur = cur;
    done = done;
    settled = behind_identity;
    runs = moved semi n within then law start seen cur done opening (closing ∷ []) _ refl ∙ moved semi n within then law opened seen cur done closing [] _ refl;
  }
  finish opened seen cur done h = record {
    ending = closing ∷ [];
    ph = empty;
    seen = seen;
    cur = cur;
    done = done;
    settled = behind_identity;
    runs = moved semi n within then law opened seen cur done closing [] _ refl;
  }
  finish empty seen cur done h = record { ending = []; ph = empty; seen = seen; cur = cur; done = done; settled = behind_identity; runs = refl }
  finish point seen cur done h = record {
    ending = closing ∷ [];
    ph = closed;
    seen = seen;
    cur = [];
    done = done ++ (cur ∷ []);
    settled = behind_cycle;
    runs = moved semi n within then law point seen cur done closing [] _ refl;
  }
  finish wanted seen cur done h = let f = room_point n seen h in record {
    ending = number f.x ∷ closing ∷ [];
    ph = closed;
    seen = f.x ∷ seen;
    cur = [];
    done = done ++ ((cur ++ (f.x ∷ [])) ∷ []);
    settled = behind_cycle;
    runs = over_wanted semi n within then law seen cur done f.x (closing ∷ []) f.is
        ∙ moved semi n within then law point (f.x ∷ seen) (cur ++ (f.x ∷ [])) done closing [] _ refl;
  }
  finish closed seen cur done h = record { ending = []; ph = closed; seen = seen; cur = cur; done = done; settled = behind_cycle; runs = refl }

pub record Ending (semi : Bool) (q : State) : Type 0 where
  pub ending : List CyclePiece
  pub read : Read
  pub is : read_outcome (read_all semi q ending) ≡ Some read

ends_R : (semi : Bool) (n : ℕ) (sc : List (List ℕ)) (ph : Phase) (seen cur : List ℕ) (done : List (List ℕ)) → SanePhase n seen ph
    → Ending semi (within_R n sc ph seen cur done)
ends_R semi n sc ph seen cur done h =
    let f = finish semi n (within_R n sc) (λ cs. dead) (law_R semi n sc) ph seen cur done h in record {
      ending = f.ending;
      read = read_as n sc f.done;
      is = ap read_outcome f.runs ∙ pick_true (may_end f.ph) _ _ (settled_whole f.ph f.settled);
    }

-- behind S: its last piece, and then an ending of R
ends_S : (semi : Bool) (n : ℕ) (ph : Phase) (seen cur : List ℕ) (done : List (List ℕ)) → SanePhase n seen ph → Ending semi (within_S n ph seen cur done)
unfolding read_all
ends_S true n ph seen cur done h =
    let f = finish true n (within_S n) (begin_r true n) (law_S true n) ph seen cur done h in
    let r = ends_R true n f.done start [] [] [] tt in record {
      ending = f.ending ++ (semicolon ∷ r.ending);
      read = r.read;
      is = ap read_outcome
          (run_append true (within_S n ph seen cur done) f.ending (semicolon ∷ r.ending)
          ∙ ap (λ (q : State). read_all true q (semicolon ∷ r.ending)) f.runs
          ∙ moved true n (within_S n) (begin_r true n) (law_S true n) f.ph f.seen f.cur f.done semicolon r.ending over
          (settled_semicolon n f.ph f.seen f.cur f.done f.settled))
          ∙ r.is;
    }
ends_S false n ph seen cur done h =
    let f = finish false n (within_S n) (begin_r false n) (law_S false n) ph seen cur done h in
    let r = ends_R false n f.done opened [] [] [] tt in record {
      ending = f.ending ++ (opening ∷ r.ending);
      read = r.read;
      is = ap read_outcome
          (run_append false (within_S n ph seen cur done) f.ending (opening ∷ r.ending)
          ∙ ap (λ (q : State). read_all false q (opening ∷ r.ending)) f.runs
          ∙ moved false n (within_S n) (begin_r false n) (law_S false n) f.ph f.seen f.cur f.done opening r.ending over
          (settled_opening n f.ph f.seen f.cur f.done f.settled))
          ∙ r.is;
    }

ends : (semi : Bool) (q : State) → Sane q → is_dead q ≡ false → Ending semi q
unfolding read_all
ends semi front h a = let s = ends_S semi 1 start [] [] [] tt in record { ending = number 1 ∷ s.ending; read = s.read; is = s.is }
ends semi (within_S n ph seen cur done) h a = ends_S semi n ph seen cur done h
ends semi (within_R n sc ph seen cur done) h a = ends_R semi n sc ph seen cur done h
ends semi dead h a = clash refl a

pub alive_completes : (semi : Bool) (ps : List CyclePiece) → is_dead (read_all semi front ps) ≡ false → Completes ps
alive_completes semi ps a =
    let e = ends semi (read_all semi front ps) (sane_run semi front ps tt) a in
    let r = right_of e.read semi (ps ++ e.ending) (ap read_outcome (run_append semi front ps e.ending) ∙ e.is) in
    record { ending = e.ending; n = e.read.index; sc = e.read.of_s; rc = e.read.of_r; right = r }

pub dead_is : (q : State) → is_dead q ≡ true → q ≡ dead
dead_is front e = clash e refl
dead_is (within_S n ph seen cur done) e = clash e refl
dead_is (within_R n sc ph seen cur done) e = clash e refl
dead_is dead e = refl

lost_for_good : (semi : Bool) (ps qs : List CyclePiece) (r : Read) → is_dead (read_all semi front ps) ≡ true → read_outcome (read_all semi front (ps ++ qs)) ≡ Some r
    → ⊥
lost_for_good semi ps qs r e h =
    no_read (sym (ap read_outcome (run_append semi front ps qs ∙ ap (λ (q : State). read_all semi q qs) (dead_is _ e) ∙ run_dead semi qs)) ∙ h)

pub completes_alive : (ps : List CyclePiece) → is_dead (read_all true front ps) ≡ true → is_dead (read_all false front ps) ≡ true → ¬ Completes ps
completes_alive ps a b c =
    go c.right.semi (accepted (ps ++ c.ending) c.n c.sc c.rc c.right)
  where
    go : (semi : Bool) → read_outcome (read_all semi front (ps ++ c.ending)) ≡ Some (read_as c.n c.sc c.rc) → ⊥
    go true h = lost_for_good true ps c.ending _ a h
    go false h = lost_for_good false ps c.ending _ b h
