-- The queue of points that are reached, and their marks.
--
-- In order: one point more (`enter_old`, `enter_new`); a visit (`visit_both`); the run from 0 (`Run` with its start, turn and end).
-- Assumes nothing.
use mathlib.Core.Path.{◌≡◌, refl, sym, ◌∙◌, ap}
use mathlib.Core.Bool.{Bool, true, false, not}
use mathlib.Core.List.{List, [], ◌∷◌, ◌++◌}
use Prim.Native.Nat.{ℕ, zero, suc, ◌≤◌, ◌<◌}
use native.Mathlib.Omega.{arith}
use native.Mathlib.Decide.{ℕ_discrete, dec_lt}
use lib.ListN.{length, get_or, set, take, replicate, length-set, length-append, length-replicate}
use Rattle.std.proofs.lemmas.List.{get_or-replicate}
use lib.Seq.{get_or-set_same, get_or-set_other, length-take-le}
use borrow.Author.Tests.{lt-ltb, le-ltb, ne_eqb}
use Rattle.basics.proofs.Choice.{clash}
use Rattle.numbering.specs.Find.{find, ◌∈◌, ◌∉◌, is_in, Once}
use Rattle.numbering.specs.Order.{add, visit, order_to, order_of, Maps}
use Rattle.numbering.proofs.Find as places
use Rattle.numbering.proofs.Order.{add_old, add_new, visit_grows, to_more, order_stop}
use Rattle.permutations.specs.Pair.{image}
use Rattle.permutations.specs.Check.{not_reached}
use Rattle.permutations.specs.Inner.Reach.{QueueHolds, Entered, VisitedAt, Two, AllReached}

take_set : (q : List ℕ) (n x : ℕ) → n < length q → take (suc n) (set q n x) ≡ take n q ++ (x ∷ [])
take_set [] n x h = absurd (omega arith)
take_set (y ∷ q) zero x h = refl
take_set (y ∷ q) (suc n) x h = ap (λ (l : List ℕ). y ∷ l) (take_set q n x (omega arith))

pub take_at : (q : List ℕ) (n j : ℕ) → j < n → get_or (take n q) j 0 ≡ get_or q j 0
take_at q zero j h = absurd (omega arith)
take_at [] (suc n) j h = refl
take_at (y ∷ q) (suc n) zero h = refl
take_at (y ∷ q) (suc n) (suc j) h = take_at q n j (omega arith)

mark_in : (l : List ℕ) (x : ℕ) → x ∈ l → is_in l x ≡ true
mark_in l x h = lt-ltb (find l x) (length l) h

mark_out : (l : List ℕ) (x : ℕ) → x ∉ l → is_in l x ≡ false
mark_out l x h = le-ltb (find l x) (length l) h

find_one : (y x : ℕ) → ¬ (x ≡ y) → find (y ∷ []) x ≡ 1
unfolding find
find_one y x n = rw (ne_eqb y x (λ q. n (sym q))) refl

-- another point is in l with y behind it exactly when it is in l
mark_old : (l : List ℕ) (y x : ℕ) → ¬ (x ≡ y) → is_in (l ++ (y ∷ [])) x ≡ is_in l x
mark_old l y x n = elim (dec_lt (find l x) (length l)) [
  | yes h ↦ mark_in (l ++ (y ∷ [])) x (places.in_left l (y ∷ []) x h) ∙ sym (mark_in l x h)
  | no h ↦ mark_out (l ++ (y ∷ [])) x (omega (arith, places.find_right l (y ∷ []) x (omega arith), length-append l (y ∷ []), find_one y x n))
      ∙ sym (mark_out l x (omega arith))
]

module _ (n size x : ℕ) (seen : List Bool) (queue : List ℕ) (t : QueueHolds n size seen queue) (low : x < size) where
  small : x < 3072
  small = let m = t.most in omega arith

  queued : length (take n queue) ≡ n
  queued = length-take-le n queue (let a = t.queue_long in let b = t.few in let c = t.most in omega arith)

  pub enter_old : get_or seen x false ≡ true → Entered x n size queue seen queue n
  enter_old h =
      let inside : x ∈ take n queue =
      elim (dec_lt (find (take n queue) x) (length (take n queue)))
      [ yes k ↦ k | no k ↦ clash h (t.marks x small ∙ mark_out (take n queue) x (omega arith)) ] in
      record { listed = t; is = sym (add_old (take n queue) x inside) }

  module _ (h : get_or seen x false ≡ false) where
    outside : x ∉ take n queue
    outside = elim (dec_lt (find (take n queue) x) (length (take n queue)))
        [ yes k ↦ clash (t.marks x small ∙ mark_in (take n queue) x k) h | no k ↦ omega arith ]

    longer : Once (take n queue ++ (x ∷ []))
    longer = places.once_last (take n queue) x t.once outside

    all_low : (y : ℕ) → y ∈ (take n queue ++ (x ∷ [])) → y < size
    all_low = places.all_last (λ (y : ℕ). y < size) (take n queue) x t.low low

    pub enter_room : n < size
    enter_room = omega (arith, places.once_below (take n queue ++ (x ∷ [])) size longer all_low, length-append (take n queue) (x ∷ []), queued)

    new_queue : take (suc n) (set queue n x) ≡ take n queue ++ (x ∷ [])
    new_queue = take_set queue n x (let a = enter_room in let b = t.queue_long in let c = t.most in omega arith)

    pub enter_new : Entered x n size queue (set seen x true) (set queue n x) (suc n)
    enter_new = record {
      listed = record {
        seen_long = length-set seen x true ∙ t.seen_long;
        queue_long = length-set queue n x ∙ t.queue_long;
        few = enter_room;
        most = t.most;
        marks = λ y k. marks y k (ℕ_discrete y x);
        low = rw new_queue all_low;
        once = rw new_queue longer;
      };
      is = new_queue ∙ sym (add_new (take n queue) x outside);
    }
      where
        marks : (y : ℕ) → y < 3072 → Dec (y ≡ x) → get_or (set seen x true) y false ≡ is_in (take (suc n) (set queue n x)) y
        marks y k (yes e) =
            ap (λ (z : ℕ). get_or (set seen x true) z false) e ∙ get_or-set_same seen x true false (omega (arith, t.seen_long, small))
            ∙ sym (ap (λ (z : List ℕ). is_in z y) new_queue ∙ ap (λ (z : ℕ). is_in (take n queue ++ (x ∷ [])) z) e
            ∙ mark_in (take n queue ++ (x ∷ [])) x (places.in_last (take n queue) x))
        marks y k (no e) =
            get_or-set_other seen x y true false e ∙ t.marks y k
            ∙ sym (ap (λ (z : List ℕ). is_in z y) new_queue ∙ mark_old (take n queue) x y e)

-- ---- a visit

pub visit_low : (n size i x : ℕ) (seen : List Bool) (queue : List ℕ) → QueueHolds n size seen queue → i < n → x ≡ get_or queue i 0 → x < size
visit_low n size i x seen queue t h e =
    let a = t.queue_long in
    let b = t.few in
    let c = t.most in
    let k = t.low (get_or (take n queue) i 0) (places.get_d_in (take n queue) i (rw (length-take-le n queue (omega arith)) h)) in
    rw e (rw (take_at queue n i h) at k)

pub visit_both : (σ ρ : ℕ → ℕ) (n size i x a b k k' : ℕ) (queue queue1 queue2 : List ℕ) (seen1 seen2 : List Bool) → i < n
    → x ≡ get_or queue i 0 → a ≡ σ x → b ≡ ρ x
    → Entered a n size queue seen1 queue1 k → Entered b k size queue1 seen2 queue2 k' → VisitedAt σ ρ i n size queue seen2 queue2 k'
visit_both σ ρ n size i x a b k k' queue queue1 queue2 seen1 seen2 h ex ea eb p q =
    let y : x ≡ get_or (take n queue) i 0 = ex ∙ sym (take_at queue n i h) in
    record {
      listed = q.listed;
      is = q.is ∙ ap (λ (z : List ℕ). add z b) p.is ∙ ap (λ (z : ℕ). add (add (take n queue) z) b) (ea ∙ ap σ y)
          ∙ ap (add (add (take n queue) (σ (get_or (take n queue) i 0)))) (eb ∙ ap ρ y);
    }

-- ---- the run from 0

pub record Run (s r : List ℕ) (i n : ℕ) (seen : List Bool) (queue : List ℕ) : Type 0 where
  pub listed : QueueHolds n (length s) seen queue
  pub is : take n queue ≡ order_to (image s) (image r) 0 i
  pub low : i ≤ n

module _ (s r : List ℕ) (two : Two s r) where
  maps : Maps (image s) (image r) 0 (length s)
  maps = record { start_low = two.some; σ_low = two.S.low; ρ_low = λ x h. rw two.even at (two.R.low x (let e = two.even in omega arith)) }

  abbrev one_queued : List ℕ
  one_queued = replicate 3072 0

  pub run_start : Run s r 0 1 (set (replicate 3072 false) 0 true) one_queued
  unfolding order_to
  run_start = record {
    listed = record {
      seen_long = length-set (replicate 3072 false) 0 true ∙ length-replicate {A = Bool} 3072 false;
      queue_long = length-replicate {A = ℕ} 3072 0;
      few = two.some;
      most = two.S.most;
      marks = λ x h. marks x h (ℕ_discrete x 0);
      low = rw queued_first (places.all_last (λ (y : ℕ). y < length s) [] 0 (λ y h. places.none_below_lem h) two.some);
      once = rw queued_first (places.once_last [] 0 places.once_none (omega arith));
    };
    is = queued_first;
    low = omega arith;
  }
    where
      queued_first : take 1 one_queued ≡ 0 ∷ []
      queued_first = refl

      marks : (x : ℕ) → x < 3072 → Dec (x ≡ 0) → get_or (set (replicate 3072 false) 0 true) x false ≡ is_in (take 1 one_queued) x
      marks x h (yes e) =
          ap (λ (z : ℕ). get_or (set (replicate 3072 false) 0 true) z false) e
          ∙ sym (ap (λ (z : List ℕ). is_in z x) queued_first ∙ ap (λ (z : ℕ). is_in (0 ∷ []) z) e ∙ mark_in (0 ∷ []) 0 (places.in_last [] 0))
      marks x h (no e) =
          get_or-set_other (replicate 3072 false) 0 x true false e ∙ get_or-replicate 3072 x false false h
          ∙ sym (ap (λ (z : List ℕ). is_in z x) queued_first ∙ mark_out (0 ∷ []) x (omega (arith, find_one 0 x e)))

  pub run_more : (i n k : ℕ) (seen seen' : List Bool) (queue queue' : List ℕ) → Run s r i n seen queue → i < n
      → VisitedAt (image s) (image r) i n (length s) queue seen' queue' k → Run s r (suc i) k seen' queue'
  run_more i n k seen seen' queue queue' t h v =
      let long : length (order_to (image s) (image r) 0 i) ≡ n = ap length (sym t.is)
      ∙ length-take-le n queue (let a = t.listed.queue_long in let b = t.listed.few in let c = t.listed.most in omega arith) in
      let e : take k queue' ≡ order_to (image s) (image r) 0 (suc i) = v.is ∙ ap (λ (z : List ℕ). visit (image s) (image r) z i) t.is
      ∙ sym (to_more (image s) (image r) 0 i (omega arith)) in
      record {
        listed = v.listed;
        is = e;
        low = omega (
          arith,
          grows i k e (omega arith),
          ap length e,
          length-take-le k queue'
              (let a = v.listed.queue_long in let b = v.listed.few in let c = v.listed.most in omega arith),
        );
      }
    where
      grows : (i k : ℕ) → take k queue' ≡ order_to (image s) (image r) 0 (suc i) → i < length (order_to (image s) (image r) 0 i)
          → suc i ≤ length (order_to (image s) (image r) 0 (suc i))
      grows i k e h = rw (to_more (image s) (image r) 0 i h) (omega (arith, (visit_grows (image s) (image r) (order_to (image s) (image r) 0 i) i).long))

  pub run_end : (i n : ℕ) (seen : List Bool) (queue : List ℕ) → Run s r i n seen queue → n ≤ i → AllReached s r seen
  run_end i n seen queue t h =
      let long = length-take-le n queue (let a = t.listed.queue_long in let b = t.listed.few in let c = t.listed.most in omega arith) in
      let f = t.listed.few in
      let l = t.low in
      let e : take n queue ≡ order_of (image s) (image r) 0 (length s) = t.is
      ∙ order_stop (image s) (image r) 0 (length s) maps i (omega arith) (omega (arith, ap length t.is)) in
      record { long = t.listed.seen_long; marks = λ x k. t.listed.marks x k ∙ ap (λ (z : List ℕ). is_in z x) e }

-- ---- the first point without a mark

pub mark_told : (s r : List ℕ) (seen : List Bool) (x : ℕ) → AllReached s r seen → x < 3072 → {b : Bool} → get_or seen x false ≡ b → not_reached s r x ≡ not b
mark_told s r seen x a h e = ap not (sym (a.marks x h) ∙ e)
