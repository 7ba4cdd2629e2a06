-- The loop of the whole: what a turn asks for (`turn_asks`), what it leaves (`turn_leaves`, `turn_stops`), that it ends (`turn_less`), and the
-- sides laid out at the end (`all_ended`).
-- Assumes nothing.
use mathlib.Core.Path.{◌≡◌, sym, ◌∙◌, ap}
use mathlib.Core.Logic.{◌⊎◌, inl, inr}
use mathlib.Core.Bool.{Bool, true, false}
use mathlib.Core.List.{List, ◌∷◌, ◌++◌}
use Prim.Native.Nat.{ℕ, zero, suc, ◌+◌, ◌-◌, ◌*◌, ◌≤◌, ◌<◌}
use native.Mathlib.Omega.{arith}
use lib.ListN.{length}
use Rattle.basics.proofs.Choice.{clash}
use Rattle.permutations.specs.Pair.{image}
use Rattle.import_rule.specs.Fixed.{by_q}
use Rattle.import_rule.specs.Order.{longest_open}
use Rattle.import_rule.specs.Inner.Placed.{Placed, finished, refused, start_placed, grow}
use Rattle.import_sides.proofs.Serving.{serving_end}
use Rattle.import_sides.specs.Inner.Work.{LABEL, TODO, cell_place, point_at, closed_in, Whole}
use Rattle.import_sides.proofs.Begin.{done_in_lem}
use Rattle.import_sides.specs.Inner.Cells.{held_at, queue_at, Rowed, fits_cell, split_cell, cell_sum_num, cell_sum_den}
use Rattle.import_sides.specs.Inner.Cells.{Opened, over, parted, Turned, dropped, opened, Turn, Laid}
use Rattle.import_sides.proofs.Along.{Cut, cut_in}
use Rattle.import_sides.proofs.Stores.{split_same}
use Rattle.import_sides.proofs.State.{sides, State, Between, turns, state_most}
use Rattle.import_sides.proofs.State.{state_some, points_low, first_in_lem, owner_of, owner_held, state_drop, state_over, cell_asks}
use Rattle.import_sides.proofs.Parting.{state_split}

module _ (s r : List ℕ) (start : List Placed) where
  abbrev S : ℕ → ℕ
  S = image s

  abbrev K : ℕ → ℕ
  K = by_q (image s) (image r)

  -- the cell of the first
  module _ (w path : List ℕ) (h j k : ℕ) (g : State s r start w path h (suc j) k) where
    abbrev c : ℕ
    c = (owner_of s r start w path h j k g).cell_of

    cut : Cut c path
    cut = cut_in c path (owner_of s r start w path h j k g).among

    at_cut : State s r start w (cut.right ++ (c ∷ cut.left)) h (suc j) k
    at_cut = rw (← cut.is) g

    own : point_at w (cell_place TODO c) ≡ queue_at w h
    own = (owner_of s r start w path h j k g).pt

    held : held_at w (queue_at w h) - 1 ≡ c
    held = let e = owner_held s r start w path h j k g in omega arith

    asks : Turn s r w h k
    asks = record {
      pair = g.pair;
      long = g.long;
      place = let t = g.tail in let m = state_most s r start w path h (suc j) k g in omega arith;
      point = points_low s r start w path h (suc j) k g (queue_at w h) (first_in_lem s r start w path h j k g);
      held = λ o. (let e = owner_held s r start w path h j k g in omega arith, rw held (cell_asks s r start w cut.right c cut.left h j k at_cut own o));
    }

    leaves_open : closed_in S K w (queue_at w h) ≡ false → (x : ℕ) → x ≡ c → (w' : List ℕ) (stop : Bool) (k' : ℕ) → stop ≡ false → Opened S K w x k w' stop k'
        → Between s r start w' (h + 1) k'
    leaves_open o x e w' stop k' f (over a b p q) = clash q f
    leaves_open o x e w' stop k' f (parted a p q u) =
        let z : fits_cell w c ≡ true = ap (fits_cell w) (sym e) ∙ a in
        let y : w' ≡ split_cell S K w c k (cell_sum_num w c - 1000000000) (cell_sum_den w c) = p
        ∙ ap (λ (i : ℕ). split_cell S K w i k (cell_sum_num w i - 1000000000) (cell_sum_den w i)) e in
        rw (y, u) (record {
          path =
              cut.right ++ (c ∷ k ∷ cut.left);
          waits = j + 2;
          state = state_split s r start w cut.right c cut.left h j k at_cut own o z;
        })

    leaves : (w' : List ℕ) (stop : Bool) (k' : ℕ) → stop ≡ false → Turned S K w h k w' stop k' → Between s r start w' (h + 1) k'
    leaves w' stop k' f (dropped a p q u) = rw (p, u) (record { path = path; waits = j; state = state_drop s r start w path h j k g a })
    leaves w' stop k' f (opened o p) = leaves_open o (held_at w (queue_at w h) - 1) held w' stop k' f p

    stops_open : closed_in S K w (queue_at w h) ≡ false → (x : ℕ) → x ≡ c → (w' : List ℕ) (stop : Bool) (k' : ℕ) → stop ≡ true → Opened S K w x k w' stop k'
        → grow S K longest_open (length s) start ≡ refused k'
    stops_open o x e w' stop k' f (over a b p q) =
        state_over s r start w cut.right c cut.left h j k at_cut own o (ap (fits_cell w) (sym e) ∙ a) k' (rw (← e) b)
    stops_open o x e w' stop k' f (parted a p q u) = clash f q

    stops : (w' : List ℕ) (stop : Bool) (k' : ℕ) → stop ≡ true → Turned S K w h k w' stop k' → grow S K longest_open (length s) start ≡ refused k'
    stops w' stop k' f (dropped a p q u) = clash f q
    stops w' stop k' f (opened o p) = stops_open o (held_at w (queue_at w h) - 1) held w' stop k' f p

  module _ (w : List ℕ) (h k : ℕ) (g : Between s r start w h k) (l : h + 3 < 2 * k) where
    -- the length stays
    pub step_long : (w' : List ℕ) (stop : Bool) (k' : ℕ) → Turned S K w h k w' stop k' → length w' ≡ length w
    step_long w' stop k' (dropped a p q u) = ap length p
    step_long w' stop k' (opened o (over a b p q)) = ap length p
    step_long w' stop k' (opened o (parted a p q u)) =
        ap length p ∙ split_same S K w (held_at w (queue_at w h) - 1) k (cell_sum_num w (held_at w (queue_at w h) - 1) - 1000000000)
        (cell_sum_den w (held_at w (queue_at w h) - 1))

    one : (P : Type 0) → ((j : ℕ) → State s r start w g.path h (suc j) k → P) → P
    one P f = go g.waits g.state
      where
        go : (j : ℕ) → State s r start w g.path h j k → P
        go zero x = let t = x.tail in absurd (omega arith)
        go (suc j) x = f j x

    pub turn_asks : Turn s r w h k
    turn_asks = one (Turn s r w h k) (λ j x. asks w g.path h j k x)

    pub turn_leaves : (w' : List ℕ) (stop : Bool) (k' : ℕ) → Turned S K w h k w' stop k' → stop ≡ false → Between s r start w' (h + 1) k'
    turn_leaves w' stop k' t f = one (Between s r start w' (h + 1) k') (λ j x. leaves w g.path h j k x w' stop k' f t)

    pub turn_stops : (w' : List ℕ) (stop : Bool) (k' : ℕ) → Turned S K w h k w' stop k' → stop ≡ true → grow S K longest_open (length s) start ≡ refused k'
    turn_stops w' stop k' t f = one (grow S K longest_open (length s) start ≡ refused k') (λ j x. stops w g.path h j k x w' stop k' f t)

  pub between_most : (w : List ℕ) (h k : ℕ) → Between s r start w h k → (k ≤ 1024) × (h + 3 ≤ 2 * k)
  between_most w h k g = (state_most s r start w g.path h g.waits k g.state, let t = g.state.tail in omega arith)

  stepped_k : (w w' : List ℕ) (h k k' : ℕ) (stop : Bool) → Turned S K w h k w' stop k' → stop ≡ false → (k' ≡ k) ⊎ (k' ≡ k + 1)
  stepped_k w w' h k k' stop (dropped a p q u) f = inl u
  stepped_k w w' h k k' stop (opened o (over a b p q)) f = clash q f
  stepped_k w w' h k k' stop (opened o (parted a p q u)) f = inr u

  pub turn_less : (w w' : List ℕ) (h k k' : ℕ) (stop : Bool) → Turned S K w h k w' stop k' → stop ≡ false → h + 3 < 2 * k → k' ≤ 1024
      → 3 * (1024 - k') + (2 * k' - (h + 1)) < 3 * (1024 - k) + (2 * k - h)
  turn_less w w' h k k' stop t f l m = elim (stepped_k w w' h k k' stop t f) [ inl e ↦ omega arith | inr e ↦ omega arith ]

  -- ---- the end

  pub row_of : (w : List ℕ) (h k : ℕ) → Between s r start w h k → Rowed w k
  row_of w h k g = record { cells = g.path; linked = g.state.linked; long = g.state.count }

  pub all_served : (w : List ℕ) (h k : ℕ) (g : Between s r start w h k) → 2 * k ≤ h + 3
      → grow S K longest_open (length s) start ≡ finished (sides s r start w g.path)
  all_served w h k g l = go g.waits g.state
    where
      go : (j : ℕ) → State s r start w g.path h j k → grow S K longest_open (length s) start ≡ finished (sides s r start w g.path)
      go zero x = serving_end S K (length s) start (turns s r start x.pair) (sides s r start w g.path) x.serving
      go (suc j) x = let t = x.tail in absurd (omega arith)

pub all_ended : (s r w w' : List ℕ) (h k : ℕ) → Between s r (start_placed (image s) (by_q (image s) (image r))) w h k → 2 * k ≤ h + 3 → Laid w k w'
    → Whole longest_open s r w' k
all_ended s r w w' h k g l d =
    let st = start_placed (image s) (by_q (image s) (image r)) in
    let x = g.state in
    let e = d.is g.path x.linked x.count in
    record {
      is = all_served s r st w h k g l ∙ ap finished (sym e);
      done = record {
        pair = x.pair;
        long = rw d.long x.long;
        some = state_some s r st w g.path h g.waits k x;
        most = state_most s r st w g.path h g.waits k x;
        points = λ i b. x.serving.growing.inv.low _ (rw e at (done_in_lem w' k i b));
        labels = λ y b. d.below (LABEL + y) (omega arith) ∙ x.labels y b;
      };
    }
