-- A side is split in its cell: what holds between two turns still holds (`state_split`).
--
-- In order: what is written; the sides after the split (`new_is`); whose cell is whose (`cells'`, `no'`); the law.
-- Assumes nothing.
use mathlib.Core.Path.{◌≡◌, refl, sym, ◌∙◌, ap}
use mathlib.Core.Logic.{◌⊎◌, inl, inr}
use mathlib.Core.Bool.{true, false}
use mathlib.Core.List.{List, [], ◌∷◌, ◌++◌}
use Prim.Native.Nat.{ℕ, suc, ◌+◌, ◌-◌, ◌*◌, ◌≤◌, ◌<◌}
use native.Mathlib.Omega.{arith}
use native.Mathlib.Decide.{ℕ_discrete}
use Rattle.import_rule.specs.Side.{Vertex, minus_infinity, mediant, limit}
use Rattle.import_rule.specs.Inner.Placed.{Placed, pts, lower_at, upper_at}
use Rattle.import_rule.proofs.Member.{In, in_left, in_right, Apart, in_is}
use Rattle.import_rule.proofs.Lead.{Turning}
use Rattle.import_rule.proofs.Split.{Closed, in_pts, t1, t2}
use Rattle.import_rule.proofs.Kept.{has_l, has_r, stays, not_old}
use Rattle.import_sides.proofs.Serving.{Serving, serving_split}
use Rattle.import_sides.specs.Inner.Work.{TODO, cell_place, two_cells, end_at, point_at, closed_in}
use Rattle.import_sides.proofs.Decode.{sum_code}
use Rattle.import_sides.proofs.Turn.{within_tells}
use Rattle.import_sides.proofs.Held.{vertex_eq, placed_eq}
use Rattle.import_sides.specs.Inner.Cells.{link_at, held_at, queue_at, Linked, end_or, along_from, low_num, cell_sum_num, cell_sum_den, fits_cell, split_cell}
use Rattle.import_sides.proofs.Along.{linked_low, linked_put, end_same, along_same, along_two}
use Rattle.import_sides.proofs.Along.{side_in, in_put, long_put, apart_put, queue_from, queue_more}
use Rattle.import_sides.proofs.After as after-split
use Rattle.import_sides.proofs.State.{σ, κ, n, sides, State, turns, state_some, points_low, low_code}
use Rattle.import_sides.proofs.State.{before, side, after, old_is, c_low, chain, served, none, room, fits_cell_lem}

-- neighbours in a list of sides whose points differ
next_apart : (b : List Placed) (u v : Placed) (a : List Placed) → Apart (pts (b ++ (u ∷ v ∷ a))) → ¬ (u.pt ≡ v.pt)
next_apart [] u v a h e = h.0 (inl e)
next_apart (x ∷ b) u v a h e = next_apart b u v a h.1 e

module _ (s r : List ℕ) (start : List Placed) (w right : List ℕ) (c : ℕ) (left : List ℕ) (h j k : ℕ) (g : State s r start w (right ++ (c ∷ left)) h (suc j) k)
    (pt : point_at w (cell_place TODO c) ≡ queue_at w h)
    (o : closed_in (σ s r start) (κ s r start) w (queue_at w h) ≡ false) (fit : fits_cell w c ≡ true) where
  abbrev σ' : ℕ → ℕ
  σ' = σ s r start

  abbrev κ' : ℕ → ℕ
  κ' = κ s r start

  abbrev n' : ℕ
  n' = n s r start

  T : Turning (σ s r start) (κ s r start) (n s r start)
  T = turns s r start g.pair

  abbrev path : List ℕ
  path = right ++ (c ∷ left)

  abbrev path' : List ℕ
  path' = right ++ (c ∷ k ∷ left)

  abbrev m : ℕ
  m = point_at w (cell_place TODO c)

  abbrev a : ℕ
  a = σ' (κ' (point_at w (cell_place TODO c)))

  abbrev b : ℕ
  b = σ' (κ' (κ' (point_at w (cell_place TODO c))))

  abbrev E : ℕ
  E = cell_sum_num w c - 1000000000

  abbrev D : ℕ
  D = cell_sum_den w c

  abbrev L : ℕ
  L = link_at w c

  abbrev w' : List ℕ
  w' = split_cell σ' κ' w c k (cell_sum_num w c - 1000000000) (cell_sum_den w c)

  abbrev B : List Placed
  B = before s r start w right c left h j k g pt o

  abbrev u : Placed
  u = side s r start w right c left h j k g pt o

  abbrev lo : Placed
  lo = lower_at σ' κ' u

  abbrev up : Placed
  up = upper_at σ' κ' u

  abbrev A : List Placed
  A = after s r start w right c left h j k g pt o

  -- the sides after the split
  abbrev new : List Placed
  new = B ++ (lo ∷ up ∷ A)

  abbrev S : Serving σ' κ' n' start (u.pt ∷ queue_from w (suc h) j) (B ++ (u ∷ A))
  S = served s r start w right c left h j k g pt o

  N : ¬ (Closed σ' κ' (pts (B ++ (u ∷ A))) u.pt)
  N = none s r start w right c left h j k g pt o

  is_old : sides s r start w path ≡ B ++ (u ∷ A)
  is_old = old_is s r start w right c left h j k g pt o

  lowc : c < 1024
  lowc = c_low s r start w right c left h j k g pt o

  lowk : k < 1024
  lowk = room s r start w right c left h j k g pt o

  some : 3 ≤ k
  some = state_some s r start w path h (suc j) k g

  c_in : In c path
  c_in = in_right c right (c ∷ left) (inl refl)

  differ : ¬ (c ≡ k)
  differ e = let z = g.low c c_in in omega arith

  m_in : In m (pts (sides s r start w path))
  m_in = side_in w minus_infinity path c c_in

  m_low : m < n'
  m_low = points_low s r start w path h (suc j) k g m m_in

  a_low : a < n'
  a_low = T.σ_low _ (T.κ_low _ m_low)

  b_low : b < n'
  b_low = T.σ_low _ (T.κ_low _ (T.κ_low _ m_low))

  small : (x : ℕ) → x < n' → x < 4096
  small x l = let t = g.pair.most in omega arith

  F : after-split.Splits w c k m a b
  F = record { long = g.long; c_low = lowc; k_low = lowk; some = some; m_low = small m m_low; a_low = small a a_low; b_low = small b b_low; differ = differ }

  -- ---- the sides after the split

  other_cell : (y : ℕ) → In y path → ¬ (y ≡ k)
  other_cell y i e = let z = g.low y i in omega arith

  cell_low : (y : ℕ) → In y path → y < 1024
  cell_low y i = linked_low w 1 path g.linked y i

  left_in : (y : ℕ) → In y left → In y path
  left_in y i = in_right y right (c ∷ left) (inr i)

  right_in : (y : ℕ) → In y right → In y path
  right_in y i = in_left y right (c ∷ left) i

  left_not : (p : List ℕ) → Apart (p ++ (c ∷ left)) → (y : ℕ) → In y left → ¬ (y ≡ c)
  left_not [] d y i e = d.0 (rw e at i)
  left_not (x ∷ p) d y i e = left_not p d.1 y i e

  right_not : (p : List ℕ) → Apart (p ++ (c ∷ left)) → (y : ℕ) → In y p → ¬ (y ≡ c)
  right_not [] d y i e = i
  right_not (x ∷ p) d y (inl q) e = d.0 (rw (sym q ∙ e) (in_right c p (c ∷ left) (inl refl)))
  right_not (x ∷ p) d y (inr i) e = right_not p d.1 y i e

  end_kept : (y : ℕ) → In y path → end_at w' (cell_place TODO y) ≡ end_at w (cell_place TODO y)
  end_kept y i = after-split.end_old w c k E D m a b L F y (cell_low y i) (other_cell y i)

  pt_kept : (y : ℕ) → In y path → ¬ (y ≡ c) → point_at w' (cell_place TODO y) ≡ point_at w (cell_place TODO y)
  pt_kept y i d = after-split.pt_other w c k E D m a b L F y (cell_low y i) (other_cell y i) d

  link : Linked w (link_at w c) left
  link = chain s r start w right c left h j k g pt o

  enough : 1000000000 ≤ cell_sum_num w c
  enough = (within_tells (cell_sum_num w c) (cell_sum_den w c) fit).0

  mid : end_at w' (cell_place TODO k) ≡ mediant (end_or w minus_infinity left) (end_at w (cell_place TODO c))
  mid =
      after-split.end_new w c k E D m a b L F
      ∙ vertex_eq (sum_code limit (low_num w (link_at w c)) (two_cells w (cell_place TODO c)) enough) refl
      ∙ ap (λ (x : Vertex). mediant x (end_at w (cell_place TODO c))) (sym (low_code s r start w (link_at w c) left link))

  left_end : end_or w' minus_infinity left ≡ end_or w minus_infinity left
  left_end = end_same w w' minus_infinity left (λ y i. end_kept y (left_in y i))

  new_is : sides s r start w' path' ≡ new
  new_is =
      let p = along_same w w' minus_infinity left (λ y i. end_kept y (left_in y i)) (λ y i. pt_kept y (left_in y i) (left_not right g.apart y i)) in
      let q = placed_eq left_end mid (after-split.pt_new w c k E D m a b L F) in
      let t = placed_eq mid (end_kept c c_in) (after-split.pt_own w c k E D m a b L F) in
      let v = ap (λ (x : Vertex). along_from w' x right) (end_kept c c_in)
      ∙ along_same w w' (end_at w (cell_place TODO c)) right (λ y i. end_kept y (right_in y i))
      (λ y i. pt_kept y (right_in y i) (right_not right g.apart y i)) in
      along_two w' minus_infinity right c k left ∙ (λ i. p i ++ (q i ∷ t i ∷ v i))

  served' : Serving σ' κ' n' start (queue_from w (suc h) j ++ (a ∷ b ∷ [])) new
  served' = serving_split σ' κ' n' start T (queue_from w (suc h) j) B u A S N (sym (fits_cell_lem s r start w right c left h j k g pt o) ∙ fit)

  queue_is : queue_from w' (h + 1) (j + 2) ≡ queue_from w (suc h) j ++ (a ∷ b ∷ [])
  queue_is =
      let t = g.tail in
      let e : h + 1 ≡ suc h = omega arith in
      let x : suc h + j ≡ 2 * k - 3 = omega arith in
      let y : suc h + j + 1 ≡ 2 * k - 3 + 1 = omega arith in
      ap (λ (z : ℕ). queue_from w' z (j + 2)) e
      ∙ queue_more w w' a b j (suc h) (λ z l. after-split.queue_other w c k E D m a b L F z (omega arith))
      (ap (queue_at w') x ∙ after-split.queue_a w c k E D m a b L F) (ap (queue_at w') y ∙ after-split.queue_b w c k E D m a b L F)

  -- ---- whose cell is whose

  a_not_b : ¬ (a ≡ b)
  a_not_b = next_apart B lo up A served'.growing.inv.apart

  old_pt : (x : ℕ) → In x (pts (sides s r start w path)) → In x (pts (B ++ (u ∷ A)))
  old_pt x i = rw is_old at i

  not_a : (x : ℕ) → In x (pts (sides s r start w path)) → ¬ (x ≡ a)
  not_a x i e = not_old σ' κ' n' T S.growing.tris B u A S.growing.inv N t1 (in_is _ _ (pts (B ++ (u ∷ A))) e (old_pt x i))

  not_b : (x : ℕ) → In x (pts (sides s r start w path)) → ¬ (x ≡ b)
  not_b x i e = not_old σ' κ' n' T S.growing.tris B u A S.growing.inv N t2 (in_is _ _ (pts (B ++ (u ∷ A))) e (old_pt x i))

  cells' : (y : ℕ) → In y path' → held_at w' (point_at w' (cell_place TODO y)) ≡ suc y
  cells' y i = go (in_put c k y right left i) (ℕ_discrete y c)
    where
      go : (y ≡ k) ⊎ In y path → Dec (y ≡ c) → held_at w' (point_at w' (cell_place TODO y)) ≡ suc y
      go (inl e) d = rw e (ap (held_at w') (after-split.pt_new w c k E D m a b L F) ∙ after-split.held_a w c k E D m a b L F a a_not_b refl)
      go (inr q) (yes e) = rw e (ap (held_at w') (after-split.pt_own w c k E D m a b L F) ∙ after-split.held_b w c k E D m a b L F b refl)
      go (inr q) (no d) =
          let x = point_at w (cell_place TODO y) in
          let x-in = side_in w minus_infinity path y q in
          let x_low = small (point_at w (cell_place TODO y)) (points_low s r start w path h (suc j) k g (point_at w (cell_place TODO y)) x-in) in
          let not-m : ¬ (point_at w (cell_place TODO y) ≡ m) = λ e. d (let f = sym (g.cells y q) ∙ ap (held_at w) e ∙ g.cells c c_in in omega arith) in
          ap (held_at w') (pt_kept y q d) ∙ after-split.held_other w c k E D m a b L F (point_at w (cell_place TODO y)) x_low
          (not_b (point_at w (cell_place TODO y)) x-in)
          (not_a (point_at w (cell_place TODO y)) x-in) not-m ∙ g.cells y q

  no' : (x : ℕ) → x < n' → ¬ (held_at w' x ≡ 0) → In x (pts (sides s r start w' path'))
  no' x l z = rw new_is (go (ℕ_discrete x b) (ℕ_discrete x a) (ℕ_discrete x m))
    where
      go : Dec (x ≡ b) → Dec (x ≡ a) → Dec (x ≡ m) → In x (pts new)
      go (yes e) d f = rw e (in_pts up new (has_r σ' κ' n' T S.growing.tris B u A S.growing.inv N))
      go (no e) (yes d) f = rw d (in_pts lo new (has_l σ' κ' n' T S.growing.tris B u A S.growing.inv N))
      go (no e) (no d) (yes f) = absurd (z (after-split.held_m w c k E D m a b L F x e d f))
      go (no e) (no d) (no f) =
          stays σ' κ' n' T S.growing.tris B u A S.growing.inv N x
          (old_pt x (g.no x l (λ q. z (after-split.held_other w c k E D m a b L F x (small x l) e d f ∙ q)))) f

  -- A SIDE IS SPLIT
  pub state_split : State s r start w' path' (h + 1) (j + 2) (k + 1)
  state_split = record {
    pair = g.pair;
    long = rw (after-split.split_long w c k E D m a b L F) g.long;
    linked = linked_put w w' c k lowk (after-split.link_own w c k E D m a b L F) (after-split.link_new w c k E D m a b L F)
        (λ x l d e. after-split.link_other w c k E D m a b L F x l d e) 1 right left g.apart other_cell g.linked;
    apart = apart_put c k right left g.apart other_cell;
    low = λ y i. elim (in_put c k y right left i) [ inl e ↦ omega arith | inr q ↦ (let z = g.low y q in omega arith) ];
    count = long_put c k right left ∙ (let z = g.count in omega arith);
    tail = let t = g.tail in omega arith;
    serving = rw (queue_is, new_is) served';
    cells = cells';
    no = no';
    labels = λ x l. after-split.read_label w c k E D m a b L F x l ∙ g.labels x l;
  }
