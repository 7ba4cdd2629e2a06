-- Laws for the functions that walk: the matrix that is followed, within its bounds (`between_room`, `between_small`, `ready`, `pair_ready`), and the steps
-- of its walk (`as_found`); what a walk finds (`Result`, `setting`, `result`, `told`) and leaves (`placed_out`); the answers by it (`not_home`, `too_far`,
-- `too_long`, `fitting`), by whether it came home (`away`, `at_home`).
-- Assumes nothing.
use Rattle.std.specs.Prelude.{Ok, Err}
use mathlib.Core.Path.{◌≡◌, refl, sym, ◌∙◌, ap, subst}
use mathlib.Core.Bool.{Bool, true, false, not, ◌&&◌}
use mathlib.Core.List.{List, [], ◌∷◌, ◌++◌}
use Prim.Native.Nat.{ℕ, ◌*◌, ◌-◌, ◌^◌, ◌≤◌, ◌<◌}
use native.Mathlib.Omega.{arith}
use lib.Dec.{leb, lit<}
use lib.ListN.{length}
use lib.IntN.{ℤ, pos}
use borrow.Author.Tests.{eq-eqb, ne_eqb, le-leb, lt-leb}
use Rattle.matrix.specs.Matrix.{Mat, ◌⊗◌, adj, det, of_list, to_list}
use Rattle.matrix.specs.Bounds.{Small, ProductFits}
use Rattle.matrix.specs.Euclid.{word_of}
use Rattle.matrix.specs.Action as action
use Rattle.matrix.proofs.Matrix.{det_adj, det_one}
use Rattle.matrix.proofs.Bounds.{small_adj, small-⊗, room}
use Rattle.coset.specs.Positions.{Real, start_of, followed, ends, query_sign}
use Rattle.coset.specs.Inner.Steps.{BuiltSteps}
use Rattle.coset.proofs.Positions.{positions}
use Rattle.walk.specs.Inner.Way.{stored, Setting, Walked}
use Rattle.walk.specs.declared.Way.{Way}
use Rattle.walk.proofs.Stored.{stored_all}
use Rattle.walk_runs.specs.Inner.Tally.{WalkTallied}
use Rattle.walk_runs.specs.declared.Stop.{Stop}
use Rattle.call.specs.Refusal.{Checked, Answer}
use Rattle.call.specs.declared.refusal.Refusal.TheVariants.{NoWord, TooShort}
use Rattle.call.specs.Call.{Step, Asks, Gives}
use Rattle.call.specs.Inner.Fills.{Fills}
use Rattle.call.proofs.Laws.{Run, run_end, run_stop, run_pass, run_put, fills_as}
use Rattle.symbol.specs.Check.{refuse}
use Rattle.word.specs.Answer.{placed, closes, found_word, found_sign, word_fits, walk_checks, word_if, found_if, word_at}
use Rattle.word.specs.Claim.{ValidQuery}
use Rattle.word.specs.Inner.Ready.{letters_along, sign_along_walk, home_along, WalkReady, PairReady}
use Rattle.word.specs.declared.FoundWord.{FoundWord}
use Rattle.word.proofs.Turned.{followed_small}

-- ---- the matrix that is followed

module _ (A B : Mat) (s : Small 1000000 A) (u : Small 1000000 B) where
  pub between_room : ProductFits B (adj A)
  between_room = room 1000000 1000000 B (adj A) (lit< tt) u (small_adj 1000000 A s)

  pub between_small : Small (2 * (1000000 * 1000000)) (B ⊗ adj A)
  between_small = small-⊗ 1000000 1000000 B (adj A) u (small_adj 1000000 A s)

-- what the answer asks for, and what it is, by the list m of the matrix that is followed
module _ {v : ℕ} {t a b m : List ℤ} {w : List ℕ} {x : ℕ} (q : PairReady t v w a b x) (m_is : m ≡ to_list (followed v t (of_list b ⊗ adj (of_list a)))) where
  pub ready : WalkReady t v w m x
  ready =
      let A = of_list a in
      let B = of_list b in
      let g = positions q.prepared.tables.symbol in
      record {
        prepared = q.prepared;
        start = q.start;
        unit = subst (λ (l : List ℤ). det (of_list l) ≡ pos 1) (sym m_is) (g.followed_unit (B ⊗ adj A) (det_one B (adj A) q.unit_B (det_adj A ∙ q.unit_A)));
        small = subst (λ (l : List ℤ). Small (2 ^ 60) (of_list l)) (sym m_is) (followed_small g (B ⊗ adj A) (between_small A B q.entries_A q.entries_B));
      }

-- a pair that is asked for, once the tables are there
pub pair_ready : {v : ℕ} {t a b : List ℤ} {w₀ w : List ℕ} {x : ℕ} → ValidQuery v t a b w₀ → BuiltSteps t v w x → PairReady t v w a b x
pair_ready q e =
    record { prepared = e.prepared; start = e.start; entries_A = q.entries_A; entries_B = q.entries_B; unit_A = q.unit_A; unit_B = q.unit_B }

-- ---- its steps

abbrev pub walk_run : (home : Bool) (l out out' : List ℤ) (start : ℕ) → List Step
walk_run home l out out' start = walk_checks home l start (length out) ++ Gives (placed start l out) out out' ∷ []

-- those of the walk along the matrix that is followed are those of the walk from A to B
pub as_found : (v : ℕ) (t a b : List ℤ) {m : List ℤ} → m ≡ to_list (followed v t (of_list b ⊗ adj (of_list a))) → (out out' : List ℤ) (start : ℕ) (r : Answer FoundWord)
    → Fills (walk_run (home_along v t (of_list m)) (letters_along v t (of_list m)) out out' start)
    (word_if start (length (letters_along v t (of_list m))) (sign_along_walk v t (of_list m))) r
    → Fills (walk_run (closes v t (of_list a) (of_list b)) (found_word v t (of_list a) (of_list b)) out out' start) (found_if v t a b start) r
unfolding letters_along sign_along_walk home_along closes found_word found_sign query_sign action.at
as_found v t a b m_is out out' start r g =
    subst (λ (l : List ℤ). Fills (walk_run (home_along v t (of_list l)) (letters_along v t (of_list l)) out out' start)
    (word_if start (length (letters_along v t (of_list l))) (sign_along_walk v t (of_list l))) r) m_is g

-- the same where the space was left as it was first
pub as_found_after : (v : ℕ) (t a b : List ℤ) {m : List ℤ} → m ≡ to_list (followed v t (of_list b ⊗ adj (of_list a))) → (out out1 out' : List ℤ) (start : ℕ)
    (r : Answer FoundWord) → out1 ≡ out → Fills (walk_run (home_along v t (of_list m)) (letters_along v t (of_list m)) out1 out' start)
    (word_if start (length (letters_along v t (of_list m))) (sign_along_walk v t (of_list m))) r
    → Fills (walk_run (closes v t (of_list a) (of_list b)) (found_word v t (of_list a) (of_list b)) out out' start) (found_if v t a b start) r
as_found_after v t a b m_is out out1 out' start r e g =
    subst (λ (l : List ℤ). Fills (walk_run (closes v t (of_list a) (of_list b)) (found_word v t (of_list a) (of_list b)) l out' start) (found_if v t a b start) r) e
    (as_found v t a b m_is out1 out' start r g)

-- ---- what a walk finds

pub record Result (v : ℕ) (t : List ℤ) (m : Mat) (start limit : ℕ) (out : List ℤ) (b : Way) (out' : List ℤ) : Type 0 where
  pub at : b.at ≡ ends v t (start_of v t) (word_of m)
  pub count : b.count ≡ length (letters_along v t m)
  pub left : out' ≡ stored start limit 0 (letters_along v t m) out
  pub sign : b.sign ≡ sign_along_walk v t m

module _ {v : ℕ} {t m : List ℤ} {w : List ℕ} {x : ℕ} (q : WalkReady t v w m x) where
  pub setting : (start limit : ℕ) (out : List ℤ) → limit ≤ length out - start → Setting t v w out start limit × Real v t x × (det (of_list m) ≡ pos 1)
      × Small (2 ^ 60) (of_list m)
  setting start limit out h = (
    record { prepared = q.prepared; room = h },
    subst (Real v t) (sym q.start)
        (positions q.prepared.tables.symbol).polygon.start,
    q.unit,
    q.small,
  )

  pub result : {start limit : ℕ} {out out' : List ℤ} {end : Way} → Walked v t start limit (of_list m) x out end out' → Result v t
      (of_list m) start limit out end out'
  unfolding letters_along sign_along_walk
  result {start} {limit} {out} {out'} {end} k =
      let k' = subst (λ (y : ℕ). Walked v t start limit (of_list m) y out end out') q.start k in
      record { at = k'.at; count = k'.count; left = k'.left; sign = k'.sign }

  -- where it ends, and how many letters it writes
  pub told : {end : Stop} → WalkTallied v t (of_list m) x end → (end.at ≡ ends v t (start_of v t) (word_of (of_list m)))
      × (end.count ≡ length (letters_along v t (of_list m)))
  unfolding letters_along
  told {end} k = let k' = subst (λ (y : ℕ). WalkTallied v t (of_list m) y end) q.start k in (k'.at, k'.count)

-- all letters have room
pub placed_out : {v : ℕ} {t : List ℤ} {m : Mat} {start n : ℕ} {out out' : List ℤ} {end : Way} → n ≡ length (letters_along v t m)
    → start ≤ length out → n ≤ length out - start → Result v t m start n out end out' → out' ≡ placed start (letters_along v t m) out
placed_out {v} {t} {m} {start} {n} {out} f h k r =
    let l = letters_along v t m in
    r.left ∙ ap (λ (i : ℕ). stored start i 0 l out) f ∙ stored_all start l out h (omega (arith, f))

-- ---- the answers

module _ (home : Bool) (l out out' : List ℤ) (start : ℕ) (q : Bool) where
  abbrev n : ℕ
  n = length l

  abbrev Answers : Answer FoundWord → Type 0
  Answers r = Fills (walk_run home l out out' start) (word_if start n q) r

  abbrev space : Checked
  space = refuse (not (word_fits start n (length out))) (TooShort n)

  abbrev put : List Step
  put = Gives (placed start l out) out out' ∷ []

  pub not_home : home ≡ false → out' ≡ out → Answers (Err NoWord)
  not_home h e = fills_as (run_stop NoWord (refuse (not home) NoWord) (Asks space ∷ put) (ap (λ (b : Bool). refuse (not b) NoWord) h) (e, tt)) refl

  module _ (h : home ≡ true) (k : ℕ) (long : k ≡ n) where
    came : {c : Checked} → Run (Asks space ∷ put) c → Run (walk_run home l out out' start) c
    came r = run_pass (refuse (not home) NoWord) (Asks space ∷ put) (ap (λ (b : Bool). refuse (not b) NoWord) h) r

    no_room : word_fits start n (length out) ≡ false → out' ≡ out → Answers (Err (TooShort k))
    no_room f e =
        fills_as (came (run_stop (TooShort n) space put (ap (λ (b : Bool). refuse (not b) (TooShort n)) f) (e, tt)))
        (ap (λ (i : ℕ). Err (TooShort i)) long)

    pub too_far : length out < start → out' ≡ out → Answers (Err (TooShort k))
    too_far f = no_room (ap (λ (c : Bool). c && leb n (length out - start)) (lt-leb start (length out) f))

    fits_by : start ≤ length out → word_fits start n (length out) ≡ leb n (length out - start)
    fits_by f = ap (λ (c : Bool). c && leb n (length out - start)) (le-leb start (length out) f)

    pub too_long : start ≤ length out → length out - start < k → out' ≡ out → Answers (Err (TooShort k))
    too_long f g = no_room (fits_by f ∙ lt-leb n (length out - start) (omega (arith, g, long)))

    pub fitting : (s : Bool) → s ≡ q → start ≤ length out → k ≤ length out - start → out' ≡ placed start l out → Answers (Ok (word_at start k s))
    fitting s is f g e =
        fills_as
        (came (run_pass space put (ap (λ (b : Bool). refuse (not b) (TooShort n)) (fits_by f ∙ le-leb n (length out - start) (omega (arith, g, long))))
        (run_put (placed start l out) out out' [] e run_end)))
        (ap (λ (i : ℕ). Ok (word_at start i s)) long ∙ ap (λ (q : Bool). Ok (word_at start n q)) is)

-- the walk came home, or it didn't
module _ (v : ℕ) (t : List ℤ) (m : Mat) {x : ℕ} (e : x ≡ ends v t (start_of v t) (word_of m)) where
  pub away : (x ≡ start_of v t → ⊥) → home_along v t m ≡ false
  unfolding home_along
  away h = ne_eqb (ends v t (start_of v t) (word_of m)) (start_of v t) (λ z. h (e ∙ z))

  pub at_home : x ≡ start_of v t → home_along v t m ≡ true
  unfolding home_along
  at_home h = eq-eqb (ends v t (start_of v t) (word_of m)) (start_of v t) (sym e ∙ h)
