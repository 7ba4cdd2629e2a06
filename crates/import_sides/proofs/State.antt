-- What holds between two turns, and what a turn asks for and does where nothing is split.
--
--   State .. path h j k     the tables hold the wide rule's sides, in the cells of the path from right to left, and its queue of j points
--   Between w h k         there is such a path
--
-- In order: sizes; the first of the queue has a cell (`owner_of`); what a turn asks for (`turn_of`); a side dropped (`state_drop`); the
-- limit (`fits_cell_lem`); a side that can't be split (`state_over`).
-- Assumes nothing.
use mathlib.Core.Path.{◌≡◌, sym, ◌∙◌, ap}
use mathlib.Core.Bool.{true, false}
use mathlib.Core.List.{List, [], ◌∷◌, ◌++◌}
use Prim.Native.Nat.{ℕ, suc, ◌+◌, ◌-◌, ◌*◌, ◌≤◌, ◌<◌}
use native.Mathlib.Omega.{arith}
use lib.Dec.{lit≤}
use lib.ListN.{length, get_or}
use lib.IntN.{pos, ◌-ℤ◌}
use Rattle.permutations.specs.Pair.{image, Pair}
use Rattle.import_rule.specs.Fixed.{by_q}
use Rattle.import_rule.specs.Side.{Vertex, vertex, minus_infinity, mediant, fits, limit}
use Rattle.import_rule.specs.Order.{longest_open}
use Rattle.import_rule.specs.Inner.Placed.{Placed, pts, refused, grow}
use Rattle.import_rule.proofs.Member.{In, Apart}
use Rattle.import_rule.proofs.Lead.{Turning, turning}
use Rattle.import_rule.proofs.Split.{Closed, pt_of}
use Rattle.import_sides.proofs.Serving.{Serving, serving_size, serving_room, serving_side, serving_drop, serving_over}
use Rattle.import_sides.specs.Inner.Work.{LABEL, TODO, cell_place, two_cells, end_at, point_at, closed_in}
use Rattle.import_sides.proofs.Decode.{diff_below, fits_code}
use Rattle.import_sides.proofs.Held.{vertex_eq, HeldIn, held_closed, held_open}
use Rattle.import_sides.specs.Inner.Cells.{link_at, held_at, queue_at, Linked, end_or, along_from, low_num}
use Rattle.import_sides.specs.Inner.Cells.{low_den, cell_sum_den, fits_cell, Counted, AtCell}
use Rattle.import_sides.proofs.Stores.{low_none, low_some}
use Rattle.import_sides.proofs.Along.{linked_from, along_long, side_of, along_at, Owner, along_pt, queue_from}

module _ (s r : List ℕ) (start : List Placed) where
  abbrev pub σ : ℕ → ℕ
  σ = image s

  abbrev pub κ : ℕ → ℕ
  κ = by_q (image s) (image r)

  abbrev pub n : ℕ
  n = length s

  abbrev pub sides : List ℕ → List ℕ → List Placed
  sides w p = along_from w minus_infinity p

  pub record State (w : List ℕ) (path : List ℕ) (h j k : ℕ) : Type 0 where
    pub pair : Pair s r
    pub long : 32768 ≤ length w
    pub linked : Linked w 1 path
    pub apart : Apart path
    pub low : (c : ℕ) → In c path → c < k
    pub count : length path ≡ k
    pub tail : h + j + 3 ≡ 2 * k
    pub serving : Serving σ κ n start (queue_from w h j) (sides w path)
    pub cells : (c : ℕ) → In c path → held_at w (point_at w (cell_place TODO c)) ≡ suc c
    pub no : (x : ℕ) → x < n → ¬ (held_at w x ≡ 0) → In x (pts (sides w path))
    pub labels : (x : ℕ) → x < 4096 → get_or w (LABEL + x) 0 ≡ 0

  pub record Between (w : List ℕ) (h k : ℕ) : Type 0 where
    pub path : List ℕ
    pub waits : ℕ
    pub state : State w path h waits k

  pub turns : Pair s r → Turning σ κ n
  turns p = turning (image s) (image r) n p.permuting

  -- ---- sizes

  module _ (w path : List ℕ) (h j k : ℕ) (g : State w path h j k) where
    pub state_most : k ≤ 1024
    state_most =
        omega (
          arith,
          serving_size σ κ n start (turns g.pair) (queue_from w h j) (sides w path)
              g.serving,
          along_long w minus_infinity path,
          g.count,
          g.pair.most,
        )

    pub state_some : 3 ≤ k
    state_some = omega (arith, g.serving.growing.kept.shape.many, along_long w minus_infinity path, g.count)

    pub points_low : (x : ℕ) → In x (pts (sides w path)) → x < n
    points_low x i = let k = pt_of x (sides w path) i in rw k.pt (g.serving.growing.inv.low k.side k.among)

    held_in : HeldIn n w (sides w path)
    held_in = record {
      yes = λ x i z. let o = along_pt w minus_infinity path x i in let a = g.cells o.cell_of o.among in let b : held_at w x ≡ suc o.cell_of =
          ap (held_at w) (sym o.pt) ∙ a in omega arith;
      no = g.no;
    }

    pub is_shut : (m : ℕ) → In m (pts (sides w path)) → closed_in σ κ w m ≡ true → Closed σ κ (pts (sides w path)) m
    is_shut m i e = held_closed σ κ n w (sides w path) m held_in ((turns g.pair).σ_low m (points_low m i)) e

    pub is_open_lem : (m : ℕ) → closed_in σ κ w m ≡ false → ¬ (Closed σ κ (pts (sides w path)) m)
    is_open_lem m e = held_open σ κ n w (sides w path) m held_in e

  -- ---- the first of the queue

  module _ (w path : List ℕ) (h j k : ℕ) (g : State w path h (suc j) k) where
    pub first_in_lem : In (queue_at w h) (pts (sides w path))
    first_in_lem = serving_side σ κ n start (turns g.pair) (queue_at w h) (queue_from w (suc h) j) (sides w path) g.serving

    pub owner_of : Owner w path (queue_at w h)
    owner_of = along_pt w minus_infinity path (queue_at w h) first_in_lem

    pub owner_held : suc owner_of.cell_of ≡ held_at w (queue_at w h)
    owner_held = sym (g.cells owner_of.cell_of owner_of.among) ∙ ap (held_at w) owner_of.pt

    pub state_drop : closed_in σ κ w (queue_at w h) ≡ true → State w path (h + 1) j k
    state_drop e =
        let z : suc h ≡ h + 1 = omega arith in
        record {
          pair = g.pair;
          long = g.long;
          linked = g.linked;
          apart = g.apart;
          low = g.low;
          count = g.count;
          tail = let t = g.tail in omega arith;
          serving = rw (← z) (serving_drop σ κ n start (turns g.pair) (queue_at w h) (queue_from w (suc h) j) (sides w path) g.serving
              (is_shut w path h (suc j) k g (queue_at w h) first_in_lem e));
          cells = g.cells;
          no = g.no;
          labels = g.labels;
        }

  -- ---- at its cell

  -- the right end of the side to the left
  pub low_code : (w : List ℕ) (l : ℕ) (q : List ℕ) → Linked w l q → end_or w minus_infinity q ≡ vertex (pos (low_num w l) -ℤ pos limit) (low_den w l)
  low_code w l [] a =
      let k = low_none w l a in
      vertex_eq (sym (diff_below 999999999 limit (lit≤ tt)) ∙ ap (λ (x : ℕ). pos x -ℤ pos limit) k.0) k.1
  low_code w l (y ∷ q) a =
      let p = a.0 in
      let k = low_some w l (λ z. omega arith) in
      let e : l - 1 ≡ y = omega arith in
      vertex_eq (ap (λ (x : ℕ). pos (two_cells w (cell_place TODO x)) -ℤ pos limit) (sym e) ∙ ap (λ (x : ℕ). pos x -ℤ pos limit) k.0)
      (ap (λ (x : ℕ). two_cells w (cell_place TODO x + 2)) (sym e) ∙ k.1)

  module _ (w right : List ℕ) (c : ℕ) (left : List ℕ) (h j k : ℕ) (g : State w (right ++ (c ∷ left)) h (suc j) k)
      (pt : point_at w (cell_place TODO c) ≡ queue_at w h)
      (o : closed_in σ κ w (queue_at w h) ≡ false) where
    abbrev pub before : List Placed
    before = sides w left

    abbrev pub side : Placed
    side = side_of w minus_infinity c left

    abbrev pub after : List Placed
    after = along_from w (end_at w (cell_place TODO c)) right

    pub old_is : sides w (right ++ (c ∷ left)) ≡ before ++ (side ∷ after)
    old_is = along_at w minus_infinity right c left

    pub c_low : c < 1024
    c_low = (linked_from w 1 right c left g.linked).0

    pub chain : Linked w (link_at w c) left
    chain = (linked_from w 1 right c left g.linked).1

    pub served : Serving σ κ n start (side.pt ∷ queue_from w (suc h) j) (before ++ (side ∷ after))
    served = rw (← old_is, pt) g.serving

    pub none : ¬ (Closed σ κ (pts (before ++ (side ∷ after))) side.pt)
    none = rw (← old_is, pt) (is_open_lem w (right ++ (c ∷ left)) h (suc j) k g (queue_at w h) o)

    left_few : length left ≤ 1024
    left_few =
        let a = along_long w minus_infinity (right ++ (c ∷ left)) in
        let b = shorter right in
        let d = g.count in
        let e = state_most w (right ++ (c ∷ left)) h (suc j) k g in
        omega arith
      where
        shorter : (p : List ℕ) → length left ≤ length (p ++ (c ∷ left))
        shorter [] = omega arith
        shorter (x ∷ p) = let h = shorter p in omega arith

    pub room : k < 1024
    room =
        omega (
          arith,
          serving_room σ κ n start (turns g.pair)
              (queue_from w (suc h) j) before side after served none,
          ap length old_is,
          along_long w minus_infinity (right ++ (c ∷ left)),
          g.count,
          g.pair.most,
        )

    pub cell_asks : AtCell s r w c k
    cell_asks = record {
      pair = g.pair;
      long = g.long;
      low = c_low;
      some = state_some w (right ++ (c ∷ left)) h (suc j) k g;
      room = room;
      point = rw pt (points_low w (right ++ (c ∷ left)) h (suc j) k g (queue_at w h) (first_in_lem w (right ++ (c ∷ left)) h j k g));
      chain = record { cells = left; linked = chain; few = left_few };
    }

    pub fits_cell_lem : fits_cell w c ≡ fits (mediant side.lo side.hi)
    fits_cell_lem =
        fits_code limit (low_num w (link_at w c)) (two_cells w (cell_place TODO c)) (cell_sum_den w c)
        ∙ ap (λ (x : Vertex). fits (mediant x (end_at w (cell_place TODO c)))) (sym (low_code w (link_at w c) left chain))

    pub state_over : fits_cell w c ≡ false → (i : ℕ) → Counted w (link_at w c) i → grow σ κ longest_open n start ≡ refused i
    state_over f i t =
        serving_over σ κ n start (turns g.pair) (queue_from w (suc h) j) before side after served none (sym fits_cell_lem ∙ f)
        ∙ ap refused (along_long w minus_infinity left ∙ t.is left chain)
