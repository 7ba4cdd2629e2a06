-- What the functions of one turn show: the sums, the limit, and the side that the first of the queue is.
-- Assumes nothing.
use mathlib.Core.Path.{◌≡◌, refl, sym, ◌∙◌, ap}
use mathlib.Core.Bool.{Bool, false, ◌&&◌}
use mathlib.Core.List.{List, [], ◌∷◌}
use Prim.Native.Nat.{ℕ, ◌+◌, ◌-◌, ◌≤◌, ◌<◌}
use native.Mathlib.Omega.{arith}
use lib.Dec.{leb}
use lib.ListN.{length}
use Rattle.permutations.specs.Pair.{image}
use Rattle.import_rule.specs.Fixed.{by_q}
use Rattle.import_sides.specs.Inner.Work.{TODO, cell_place, two_cells, closed_in}
use Rattle.import_sides.specs.Inner.Cells.{link_at, held_at, queue_at, Linked, Chain, low_num, low_den, cell_sum_num, cell_sum_den}
use Rattle.import_sides.specs.Inner.Cells.{fits_cell, split_cell, Counted, Opened, Turned, opened, AtCell, Turn}

pub chain_low : (w : List ℕ) (l l' : ℕ) → l' ≡ l → Chain w l → l' ≤ 1024
chain_low w l l' e c = go c.cells c.linked
  where
    go : (p : List ℕ) → Linked w l p → l' ≤ 1024
    go [] a = omega arith
    go (x ∷ p) a = let b = a.0 in let d = a.1 in omega arith

module _ (w : List ℕ) (c l : ℕ) (e : l ≡ link_at w c) where
  pub num_is : (x y : ℕ) → x ≡ low_num w l → y ≡ two_cells w (cell_place TODO c) → x + y ≡ cell_sum_num w c
  num_is x y p q = let r : x ≡ low_num w (link_at w c) = p ∙ ap (low_num w) e in λ i. r i + q i

  pub den_is : (x y : ℕ) → x ≡ low_den w l → y ≡ two_cells w (cell_place TODO c + 2) → x + y ≡ cell_sum_den w c
  den_is x y p q = let r : x ≡ low_den w (link_at w c) = p ∙ ap (low_den w) e in λ i. r i + q i

  pub chain_of : Chain w (link_at w c) → Chain w l
  chain_of h = rw e h

  pub counted_of_lem : (i : ℕ) → Counted w l i → Counted w (link_at w c) i
  counted_of_lem i h = rw e at h

module _ (σ κ : ℕ → ℕ) (w : List ℕ) (c k x y : ℕ) (p : x ≡ cell_sum_num w c) (q : y ≡ cell_sum_den w c) where
  pub fits_by : (leb 1000000000 x && leb x 3000000000 && leb y 1000000000) ≡ fits_cell w c
  fits_by = rw (p, q) refl

  pub split_to : (w' : List ℕ) → w' ≡ split_cell σ κ w c k (x - 1000000000) y → w' ≡ split_cell σ κ w c k (cell_sum_num w c - 1000000000) (cell_sum_den w c)
  split_to w' e = e ∙ (λ i. split_cell σ κ w c k (p i - 1000000000) (q i))

-- ---- the first of the queue

module _ (s r w : List ℕ) (h k m : ℕ) (t : Turn s r w h k) (e : m ≡ queue_at w h) where
  pub first_point : m < length s
  first_point = rw e t.point

  module _ (o : closed_in (image s) (by_q (image s) (image r)) w m ≡ false) (x : ℕ) (f : x ≡ held_at w m) where
    is_open_lem : closed_in (image s) (by_q (image s) (image r)) w (queue_at w h) ≡ false
    is_open_lem = ap (closed_in (image s) (by_q (image s) (image r)) w) (sym e) ∙ o

    is_held : x ≡ held_at w (queue_at w h)
    is_held = f ∙ ap (held_at w) e

    pub held_some : 1 ≤ x
    held_some = let z = (t.held is_open_lem).0 in let y = is_held in omega arith

    pub cell_of : AtCell s r w (x - 1) k
    cell_of = rw (is_held) (t.held is_open_lem).1

    pub stepped_of : (w' : List ℕ) (stop : Bool) (k' : ℕ) → Opened (image s) (by_q (image s) (image r)) w (x - 1) k w' stop k'
        → Turned (image s) (by_q (image s) (image r)) w h k w' stop k'
    stepped_of w' stop k' p = opened is_open_lem (rw (is_held) at p)
