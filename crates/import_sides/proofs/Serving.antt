-- The wide rule with a queue, turn by turn, as code follows it: what holds between two turns, and what each turn does.
--
--   Serving q l      the points q wait, the sides l are there, and growing the start by the order `longest_open` comes to growing these
--
-- In order: the number of a side by its point (`side_at_lem`); who is chosen is the first that waits (`chosen_first`, `chosen_is_first`); the start
-- (`serving_start`); how many sides there are (`serving_size`, `serving_room`); the first of the queue is a side's (`serving_side`); it is closed
-- (`serving_drop`), can't be split (`serving_over`), is split (`serving_split`); the end (`serving_end`).
--
-- Why: the sides that wait stand in the order in which they came, and every open side waits.
-- Assumes nothing.
use mathlib.Core.Path.{◌≡◌, refl, sym, ◌∙◌, ap}
use mathlib.Core.Logic.{◌⊎◌, inl, inr}
use mathlib.Core.Bool.{true, false}
use mathlib.Core.List.{List, [], ◌∷◌, ◌++◌}
use Prim.Native.Nat.{ℕ, suc, ◌+◌, ◌*◌, ◌-◌, ◌<◌, ◌≤◌}
use native.Mathlib.Omega.{arith}
use lib.ListN.{length, get_or}
use borrow.Author.Tests.{eq-eqb, ne_eqb}
use Rattle.numbering.specs.Find.{find}
use Rattle.import_rule.specs.Side.{mediant, fits}
use Rattle.import_rule.specs.Order.{longest_open, none, this, chosen_by}
use Rattle.import_rule.specs.Rule.{came_after, start_came}
use Rattle.import_rule.specs.Inner.Placed.{Placed, pts, finished, refused, lower_at, upper_at, opens_at, grow}
use Rattle.import_rule.proofs.Member.{In, in_right, Apart, in_is}
use Rattle.import_rule.proofs.Lead.{Turning}
use Rattle.import_rule.proofs.Split.{Closed, in_pts}
use Rattle.import_rule.proofs.Kept.{Inv}
use Rattle.import_rule.proofs.Start.{Kept}
use Rattle.import_rule.proofs.Order.{longest_first, opens_long, Rest, Cut, outcome_by}
use Rattle.import_rule.proofs.Growing.{Growing, growing_start, growing_size, growing_room, growing_over, growing_split, growing_end}
use Rattle.import_sides.proofs.Waiting.{Came, came_as, zipped, pts_of, zip_pt, zip_at, Spot, zip_get, Asc, Waiting, drop_closed, wait_split}

-- ---- the number of a side by its point

pub side_at_lem : (before : List Placed) (s : Placed) (after : List Placed) (m : ℕ) → Apart (pts (before ++ (s ∷ after))) → m ≡ s.pt
    → find (pts (before ++ (s ∷ after))) m ≡ length before
unfolding find
side_at_lem [] s after m a e = rw (eq-eqb s.pt m (sym e)) refl
side_at_lem (u ∷ b) s after m a e =
    let h : ¬ (u.pt ≡ m) = λ z. a.0 (in_is _ _ (pts (b ++ (s ∷ after))) (sym (z ∙ e)) (in_pts s (b ++ (s ∷ after)) (in_right s b (s ∷ after) (inl refl)))) in
    rw (ne_eqb u.pt m h) (ap suc (side_at_lem b s after m a.1 e))

-- ---- who is chosen is the first that waits

module _ (σ κ : ℕ → ℕ) where
  chosen_first : (k : ℕ) (came : List ℕ) (before : List Placed) (s : Placed) (after : List Placed) (c : Came) (qs : List Came)
      → Waiting σ κ k came (before ++ (s ∷ after)) (c ∷ qs)
      → ¬ (Closed σ κ (pts (before ++ (s ∷ after))) s.pt) → ¬ (Closed σ κ (pts (before ++ (s ∷ after))) c.pt)
      → chosen_by longest_open came (opens_at σ κ (pts (before ++ (s ∷ after))) (before ++ (s ∷ after))) ≡ this (length before) → c.pt ≡ s.pt
  chosen_first k came before s after c qs w n m e = go (w.waits _ d_in n)
    where
      d_in : In (came_as (get_or came (length before) 0) s.pt) (zipped came (pts (before ++ (s ∷ after))))
      d_in = zip_at came before s after w.long

      spot : Spot (opens_at σ κ (pts (before ++ (s ∷ after))) (before ++ (s ∷ after))) came c.came
      spot = zip_get σ κ (pts (before ++ (s ∷ after))) c came (before ++ (s ∷ after)) (w.held c (inl refl)) m

      early : get_or came (length before) 0 ≤ c.came
      early =
          let o = opens_at σ κ (pts (before ++ (s ∷ after))) (before ++ (s ∷ after)) in
          let z = longest_first came (opens_at σ κ (pts (before ++ (s ∷ after))) (before ++ (s ∷ after))) (length before)
          (w.long ∙ sym (opens_long σ κ (pts (before ++ (s ∷ after))) (before ++ (s ∷ after)))) e spot.at spot.open_yet in
          let y = spot.is in
          omega arith

      go : In (came_as (get_or came (length before) 0) s.pt) (c ∷ qs) → c.pt ≡ s.pt
      go (inl q) = sym (ap (λ (y : Came). y.pt) q)
      go (inr h) = let z = w.asc.1 _ h in let y = early in absurd (omega arith)

  -- an open side that is the first to wait is chosen
  chosen_is_first : (k : ℕ) (came : List ℕ) (before : List Placed) (s : Placed) (after : List Placed) (c : Came) (qs : List Came)
      → Waiting σ κ k came (before ++ (s ∷ after)) (c ∷ qs)
      → Apart (pts (before ++ (s ∷ after))) → ¬ (Closed σ κ (pts (before ++ (s ∷ after))) s.pt) → c.pt ≡ s.pt
      → chosen_by longest_open came (opens_at σ κ (pts (before ++ (s ∷ after))) (before ++ (s ∷ after))) ≡ this (length before)
  chosen_is_first k came before s after c qs w a h e = go (outcome_by longest_open σ κ came (before ++ (s ∷ after)) w.long)
    where
      go : Rest longest_open σ κ (before ++ (s ∷ after)) (chosen_by longest_open came (opens_at σ κ (pts (before ++ (s ∷ after))) (before ++ (s ∷ after))))
          ⊎ Cut longest_open σ κ (before ++ (s ∷ after)) (chosen_by longest_open came (opens_at σ κ (pts (before ++ (s ∷ after))) (before ++ (s ∷ after))))
          → chosen_by longest_open came (opens_at σ κ (pts (before ++ (s ∷ after))) (before ++ (s ∷ after))) ≡ this (length before)
      go (inl r) = absurd (h (r.all s (in_right s before (s ∷ after) (inl refl))))
      go (inr r) =
          let v : Waiting σ κ k came (r.before ++ (r.side ∷ r.after)) (c ∷ qs) = rw r.was at w in
          let o : ¬ (Closed σ κ (pts (r.before ++ (r.side ∷ r.after))) c.pt) = rw (← r.was, e) h in
          let t : chosen_by longest_open came (opens_at σ κ (pts (r.before ++ (r.side ∷ r.after))) (r.before ++ (r.side ∷ r.after)))
          ≡ this (length r.before) =
          ap (λ (x : List Placed). chosen_by longest_open came (opens_at σ κ (pts x) x)) (sym r.was) ∙ r.is in
          let p : c.pt ≡ r.side.pt = chosen_first k came r.before r.side r.after c qs v r.none o t in
          let b : Apart (pts (r.before ++ (r.side ∷ r.after))) = rw r.was at a in
          let x = side_at_lem before s after s.pt a refl in
          let y = side_at_lem r.before r.side r.after s.pt b (sym e ∙ p) in
          r.is ∙ ap this (sym y ∙ ap (λ (z : List Placed). find (pts z) s.pt) (sym r.was) ∙ x)

  -- where nobody waits, nobody is chosen
  nobody_chosen : (k : ℕ) (came : List ℕ) (l : List Placed) → Waiting σ κ k came l [] → chosen_by longest_open came (opens_at σ κ (pts l) l) ≡ none
  nobody_chosen k came l w = go (outcome_by longest_open σ κ came l w.long)
    where
      go : Rest longest_open σ κ l (chosen_by longest_open came (opens_at σ κ (pts l) l))
          ⊎ Cut longest_open σ κ l (chosen_by longest_open came (opens_at σ κ (pts l) l))
          → chosen_by longest_open came (opens_at σ κ (pts l) l) ≡ none
      go (inl r) = r.is
      go (inr r) =
          let v : Waiting σ κ k came (r.before ++ (r.side ∷ r.after)) [] = rw r.was at w in
          absurd (v.waits _ (zip_at came r.before r.side r.after v.long) r.none)

-- ---- the start

three_came : (l : List Placed) → length l ≡ 3 → Asc 3 (zipped start_came (pts l)) × (pts_of (zipped start_came (pts l)) ≡ pts l)
three_came [] h = absurd (omega arith)
three_came (a ∷ []) h = absurd (omega arith)
three_came (a ∷ b ∷ []) h = absurd (omega arith)
three_came (a ∷ b ∷ c ∷ d ∷ l) h = absurd (omega arith)
three_came (a ∷ b ∷ c ∷ []) h = ((omega arith, first, (omega arith, second, (omega arith, (λ d i. absurd i), tt))), refl)
  where
    is : (x y : ℕ) (d : Came) → d ≡ came_as x y → d.came ≡ x
    is x y d e = ap (λ (z : Came). z.came) e

    second : (d : Came) → In d (came_as 2 c.pt ∷ []) → 1 < d.came
    second d (inl e) = let z = is 2 c.pt d e in omega arith
    second d (inr i) = absurd i

    first : (d : Came) → In d (came_as 1 b.pt ∷ came_as 2 c.pt ∷ []) → 0 < d.came
    first d (inl e) = let z = is 1 b.pt d e in omega arith
    first d (inr i) = let z = second d i in omega arith

-- the first of a queue
record Heads (qs : List Came) (m : ℕ) (q : List ℕ) : Type 0 where
  first : Came
  rest : List Came
  was : qs ≡ first ∷ rest
  pt : first.pt ≡ m
  is : pts_of rest ≡ q

heads : (qs : List Came) (m : ℕ) (q : List ℕ) → pts_of qs ≡ m ∷ q → Heads qs m q
heads [] m q e = let z = ap length e in absurd (omega arith)
heads (c ∷ qs) m q e = record { first = c; rest = qs; was = refl; pt = cc; is = cc }

no_heads : (qs : List Came) → pts_of qs ≡ [] → qs ≡ []
no_heads [] e = refl
no_heads (c ∷ qs) e = let z = ap length e in absurd (omega arith)

queue_pts : (qs : List Came) (x y a b : ℕ) → pts_of qs ++ (a ∷ b ∷ []) ≡ pts_of ((qs ++ (came_as x a ∷ [])) ++ (came_as y b ∷ []))
queue_pts [] x y a b = refl
queue_pts (c ∷ qs) x y a b = ap (λ (z : List ℕ). c.pt ∷ z) (queue_pts qs x y a b)

module _ (σ κ : ℕ → ℕ) (n : ℕ) (start : List Placed) where
  pub record Serving (q : List ℕ) (l : List Placed) : Type 0 where
    pub number : ℕ
    pub came : List ℕ
    pub growing : Growing longest_open σ κ n start number came l
    pub queue : List Came
    pub waiting : Waiting σ κ number came l queue
    pub is : pts_of queue ≡ q

  module _ (T : Turning σ κ n) where
    pub serving_start : (tri : Placed) → Inv σ κ n (tri ∷ []) start → Kept (tri ∷ []) start → Serving (pts start) start
    serving_start tri inv kept =
        let h : length start ≡ 3 = let k = kept.count in omega arith in
        let t = three_came start h in
        record {
          number = 3;
          came = start_came;
          growing = growing_start longest_open σ κ n start T tri inv kept;
          queue = zipped start_came (pts start);
          waiting = record { asc = t.0; held = λ c i. i; waits = λ c i o. i; long = omega arith };
          is = t.1;
        }

    pub serving_size : (q : List ℕ) (l : List Placed) → Serving q l → 3 * length l ≤ n + 6
    serving_size q l g = growing_size longest_open σ κ n start T g.number g.came l g.growing

    pub serving_side : (m : ℕ) (q : List ℕ) (l : List Placed) → Serving (m ∷ q) l → In m (pts l)
    serving_side m q l g =
        let k = heads g.queue m q g.is in
        let w : Waiting σ κ g.number g.came l (k.first ∷ k.rest) = rw k.was at g.waiting in
        rw (← k.pt) (zip_pt k.first g.came (pts l) (w.held k.first (inl refl)))

    pub serving_drop : (m : ℕ) (q : List ℕ) (l : List Placed) → Serving (m ∷ q) l → Closed σ κ (pts l) m → Serving q l
    serving_drop m q l g c =
        let k = heads g.queue m q g.is in
        let w : Waiting σ κ g.number g.came l (k.first ∷ k.rest) = rw k.was at g.waiting in
        record {
          number = g.number;
          came = g.came;
          growing = g.growing;
          queue = k.rest;
          waiting = drop_closed σ κ g.number g.came l k.first k.rest w (rw k.pt c);
          is = k.is;
        }

    module _ (q : List ℕ) (before : List Placed) (s : Placed) (after : List Placed) (g : Serving (s.pt ∷ q) (before ++ (s ∷ after)))
        (h : ¬ (Closed σ κ (pts (before ++ (s ∷ after))) s.pt)) where
      -- where a side is open, there is room for one more
      pub serving_room : 3 * length (before ++ (s ∷ after)) + 3 ≤ n + 6
      serving_room = growing_room longest_open σ κ n start T g.number g.came before s after g.growing h

      says : chosen_by longest_open g.came (opens_at σ κ (pts (before ++ (s ∷ after))) (before ++ (s ∷ after))) ≡ this (length before)
      says =
          let k = heads g.queue s.pt q g.is in
          let w : Waiting σ κ g.number g.came (before ++ (s ∷ after)) (k.first ∷ k.rest) = rw k.was at g.waiting in
          chosen_is_first σ κ g.number g.came before s after k.first k.rest w g.growing.inv.apart h k.pt

      pub serving_over : fits (mediant s.lo s.hi) ≡ false → grow σ κ longest_open n start ≡ refused (length before)
      serving_over f = growing_over longest_open σ κ n start T g.number g.came before s after g.growing h says f

      pub serving_split : fits (mediant s.lo s.hi) ≡ true
          → Serving (q ++ (σ (κ s.pt) ∷ σ (κ (κ s.pt)) ∷ [])) (before ++ (lower_at σ κ s ∷ upper_at σ κ s ∷ after))
      serving_split f =
          let k = heads g.queue s.pt q g.is in
          let w : Waiting σ κ g.number g.came (before ++ (s ∷ after)) (k.first ∷ k.rest) = rw k.was at g.waiting in
          record {
            number = suc (suc g.number);
            came = came_after g.number (length before) g.came;
            growing = growing_split longest_open σ κ n start T g.number g.came before s after g.growing h says f;
            queue = (k.rest ++ (came_as g.number (σ (κ s.pt)) ∷ [])) ++ (came_as (suc g.number) (σ (κ (κ s.pt))) ∷ []);
            waiting = wait_split σ κ n T g.growing.tris before s after g.growing.inv h g.number g.came k.first k.rest k.pt w;
            is = sym (queue_pts k.rest g.number (suc g.number) (σ (κ s.pt)) (σ (κ (κ s.pt))))
                ∙ ap (λ (x : List ℕ). x ++ (σ (κ s.pt) ∷ σ (κ (κ s.pt)) ∷ [])) k.is;
          }

    pub serving_end : (l : List Placed) → Serving [] l → grow σ κ longest_open n start ≡ finished l
    serving_end l g =
        let w : Waiting σ κ g.number g.came l [] = rw (no_heads g.queue g.is) at g.waiting in
        growing_end longest_open σ κ n start T g.number g.came l g.growing (nobody_chosen σ κ g.number g.came l w)
