-- The walk in the work space follows the quick way.
--
--   Walking s r start w d k  the tables hold the sides done and to do, HELD their points, and LABEL nothing
--
-- In order: the first side to do (`walk_top`); a side moved on (`walk_move`); a side split (`walk_split`); a side that can't be split (`walk_over`); the
-- end (`walk_end`).
-- Assumes nothing.
use mathlib.Core.Path.{◌≡◌, refl, sym, ◌∙◌, ap}
use mathlib.Core.Logic.{◌⊎◌, inl, inr}
use mathlib.Core.Bool.{Bool, true, false}
use mathlib.Core.List.{List, [], ◌∷◌, ◌++◌}
use Prim.Native.Nat.{ℕ, zero, suc, ◌+◌, ◌-◌, ◌*◌, ◌≤◌, ◌<◌}
use native.Mathlib.Omega.{arith}
use lib.ListN.{length, get_or, set, length-set, length-append}
use lib.Seq.{get_or-set_same, get_or-set_other}
use lib.IntN.{pos, ◌-ℤ◌}
use Rattle.basics.proofs.Choice.{clash}
use Rattle.permutations.specs.Pair.{image, Pair}
use Rattle.import_rule.specs.Fixed.{by_q}
use Rattle.import_rule.specs.Side.{Vertex, mediant, fits, limit}
use Rattle.import_rule.specs.Order.{leftmost}
use Rattle.import_rule.specs.Inner.Placed.{Placed, placed_side, pts, finished, refused, lower_at, upper_at, grow}
use Rattle.import_sides.specs.Inner.Work.{LABEL, HELD, DONE, TODO, cell_place, two_cells, end_at, point_at, last_in, done_in, todo_in, cell_set}
use Rattle.import_sides.specs.Inner.Work.{left_end_num, left_end_den, top_fits, top_point, held_set, closed_in}
use Rattle.import_sides.specs.Inner.Work.{SideTaken, moved, over, parted, Top}
use Rattle.import_rule.proofs.Member.{In, in_right}
use Rattle.import_rule.proofs.Lead.{Turning, turning}
use Rattle.import_rule.proofs.Split.{Closed, pt_of}
use Rattle.import_rule.proofs.Going.{Going, going_size, going_move, going_split, going_over, going_end}
use Rattle.import_sides.proofs.Cells.{number_same, cell_length, cell_other, cell_num, cell_den, cell_pt}
use Rattle.import_sides.proofs.Turn.{held_length, within_tells}
use Rattle.import_sides.proofs.Decode.{sum_code, last_code, fits_in_lem}
use Rattle.import_sides.proofs.Held.{Same, vertex_eq, last_same, placed_eq, done_same, todo_same, length_done, length_todo, HeldIn, held_closed}
use Rattle.import_sides.proofs.Held.{held_open, held_same, held_split}

-- ---- the walk

pub record Walking (s r : List ℕ) (start : List Placed) (w : List ℕ) (d k : ℕ) : Type 0 where
  pub pair : Pair s r
  pub long : 32768 ≤ length w
  pub going : Going (image s) (by_q (image s) (image r)) (length s) start (done_in w d) (todo_in (last_in w d) w k)
  pub held : HeldIn (length s) w (done_in w d ++ todo_in (last_in w d) w k)
  pub labels : (x : ℕ) → x < 4096 → get_or w (LABEL + x) 0 ≡ 0

pred : (k : ℕ) → suc k - 1 ≡ k
pred k = omega arith

more : (k : ℕ) → k + 1 ≡ suc k
more k = omega arith

pub snoc : (l : List Placed) (s : Placed) (r : List Placed) → (l ++ (s ∷ [])) ++ r ≡ l ++ (s ∷ r)
snoc [] s r = refl
snoc (x ∷ l) s r = ap (λ (y : List Placed). x ∷ y) (snoc l s r)

module _ (s r : List ℕ) (start : List Placed) where
  abbrev σ : ℕ → ℕ
  σ = image s

  abbrev κ : ℕ → ℕ
  κ = by_q (image s) (image r)

  abbrev n : ℕ
  n = length s

  pub turn_of : Pair s r → Turning σ κ n
  turn_of p = turning (image s) (image r) n p.permuting

  pub walk_size : (w : List ℕ) (d k : ℕ) → Walking s r start w d k → d + k ≤ 1024
  walk_size w d k g =
      let a = going_size σ κ n start (turn_of g.pair) (done_in w d) (todo_in (last_in w d) w k) g.going in
      omega (arith, length-append (done_in w d) (todo_in (last_in w d) w k), length_done w d, length_todo (last_in w d) w k, g.pair.most)

  points_low : (w : List ℕ) (d k : ℕ) → Walking s r start w d k → (x : ℕ) → In x (pts (done_in w d ++ todo_in (last_in w d) w k)) → x < n
  points_low w d k g x i = let j = pt_of x (done_in w d ++ todo_in (last_in w d) w k) i in rw j.pt (g.going.growing.inv.low j.side j.among)

  -- the first side to do
  abbrev first : List ℕ → (d k : ℕ) → Placed
  first w d k = placed_side (last_in w d) (end_at w (cell_place TODO k)) (point_at w (cell_place TODO k))

  abbrev rest : List ℕ → (k : ℕ) → List Placed
  rest w k = todo_in (end_at w (cell_place TODO k)) w k

  first_low : (w : List ℕ) (d k : ℕ) → Walking s r start w d (suc k) → point_at w (cell_place TODO k) < n
  first_low w d k g = g.going.growing.inv.low (first w d k) (in_right (first w d k) (done_in w d) (first w d k ∷ rest w k) (inl refl))

  pub walk_top : (w : List ℕ) (d k : ℕ) → Walking s r start w d k → 1 ≤ k → Top s r w d k
  walk_top w d zero g h = absurd (omega arith)
  walk_top w d (suc k) g h =
      let z = walk_size w d (suc k) g in
      record { pair = g.pair; long = g.long; done = omega arith; some = h; todo = omega arith; point = rw (pred k) (first_low w d k g) }

  -- ---- a side moved on

  module _ (w : List ℕ) (d k : ℕ) (g : Walking s r start w d (suc k)) where
    abbrev at : ℕ
    at = cell_place DONE d

    abbrev w' : List ℕ
    w' = cell_set w (cell_place DONE d) (two_cells w (cell_place TODO k)) (two_cells w (cell_place TODO k + 2)) (point_at w (cell_place TODO k))

    size : d + suc k ≤ 1024
    size = walk_size w d (suc k) g

    room : at + 5 ≤ length w
    room = omega (arith, size, g.long)

    same : (a b : ℕ) → (b ≤ at) ⊎ (at + 5 ≤ a) → Same a b w w'
    same a b o = record {
      each = λ j x y. cell_other w at (two_cells w (cell_place TODO k)) (two_cells w (cell_place TODO k + 2)) (point_at w (cell_place TODO k)) j
          (side j x y o);
    }
      where
        side : (j : ℕ) → a ≤ j → j < b → (b ≤ at) ⊎ (at + 5 ≤ a) → (j < at) ⊎ (at + 5 ≤ j)
        side j x y (inl h) = inl (omega arith)
        side j x y (inr h) = inr (omega arith)

    end_is : end_at w' at ≡ end_at w (cell_place TODO k)
    end_is = vertex_eq
        (ap (λ (x : ℕ). pos x -ℤ pos limit)
        (cell_num w at (two_cells w (cell_place TODO k)) (two_cells w (cell_place TODO k + 2)) (point_at w (cell_place TODO k)) room))
        (cell_den w at (two_cells w (cell_place TODO k)) (two_cells w (cell_place TODO k + 2)) (point_at w (cell_place TODO k)) room)

    done_is : done_in w' (suc d) ≡ done_in w d ++ (first w d k ∷ [])
    done_is =
        let a = done_same w w' d d (omega arith) (same DONE (cell_place DONE d) (inl (omega arith))) in
        let b = placed_eq (last_same w w' d d (omega arith) (same DONE (cell_place DONE d) (inl (omega arith)))) end_is
        (cell_pt w at (two_cells w (cell_place TODO k)) (two_cells w (cell_place TODO k + 2)) (point_at w (cell_place TODO k)) room) in
        λ i. a i ++ (b i ∷ [])

    todo_is : todo_in (last_in w' (suc d)) w' k ≡ rest w k
    todo_is = ap (λ (x : Vertex). todo_in x w' k) end_is
        ∙ todo_same w w' k k (end_at w (cell_place TODO k)) (omega arith) (same TODO (cell_place TODO k) (inr (omega (arith, size))))

    both_is : done_in w' (suc d) ++ todo_in (last_in w' (suc d)) w' k ≡ done_in w d ++ (first w d k ∷ rest w k)
    both_is = (λ i. done_is i ++ todo_is i) ∙ snoc (done_in w d) (first w d k) (rest w k)

    pub walk_move : closed_in σ κ w (point_at w (cell_place TODO k)) ≡ true → Walking s r start w' (suc d) k
    walk_move e =
        let T = turn_of g.pair in
        let low = T.σ_low _ (first_low w d k g) in
        let c = held_closed σ κ n w (done_in w d ++ (first w d k ∷ rest w k)) (point_at w (cell_place TODO k)) g.held low e in
        record {
          pair = g.pair;
          long = rw (cell_length w at (two_cells w (cell_place TODO k)) (two_cells w (cell_place TODO k + 2)) (point_at w (cell_place TODO k))) g.long;
          going = rw (done_is, todo_is) (going_move σ κ n start T (done_in w d) (first w d k) (rest w k) g.going c);
          held = rw both_is (held_same n w w' (done_in w d ++ (first w d k ∷ rest w k)) (omega (arith, g.pair.most)) (same HELD DONE (inl (omega arith)))
              g.held (points_low w d (suc k) g));
          labels = λ x h. (same LABEL HELD (inl (omega arith))).each (LABEL + x) (omega arith) (omega arith) ∙ g.labels x h;
        }

  -- ---- a side split

  module _ (w : List ℕ) (d k : ℕ) (g : Walking s r start w d (suc k)) (e : closed_in σ κ w (point_at w (cell_place TODO k)) ≡ false) where
    abbrev pm : ℕ
    pm = point_at w (cell_place TODO k)

    abbrev pa : ℕ
    pa = σ (κ (point_at w (cell_place TODO k)))

    abbrev pb : ℕ
    pb = σ (κ (κ (point_at w (cell_place TODO k))))

    abbrev num : ℕ
    num = left_end_num w d + two_cells w (cell_place TODO k)

    abbrev den : ℕ
    den = left_end_den w d + two_cells w (cell_place TODO k + 2)

    abbrev w1 : List ℕ
    w1 = held_set w 0 pm pa pb

    abbrev w2 : List ℕ
    w2 = set (held_set w 0 pm pa pb) (cell_place TODO k + 4) pb

    abbrev w3 : List ℕ
    w3 = cell_set (set (held_set w 0 pm pa pb) (cell_place TODO k + 4) pb) (cell_place TODO (suc k)) (num - 1000000000) den pa

    sized : d + suc k ≤ 1024
    sized = walk_size w d (suc k) g

    none : ¬ (Closed σ κ (pts (done_in w d ++ (first w d k ∷ rest w k))) pm)
    none = held_open σ κ n w (done_in w d ++ (first w d k ∷ rest w k)) pm g.held e

    pub walk_over : fits (mediant (last_in w d) (end_at w (cell_place TODO k))) ≡ false → grow σ κ leftmost n start ≡ refused d
    walk_over f = going_over σ κ n start (turn_of g.pair) (done_in w d) (first w d k) (rest w k) g.going none f ∙ ap refused (length_done w d)

    lows : (pm < 4096) × (pa < 4096) × (pb < 4096)
    lows =
        let T = turn_of g.pair in
        let x = first_low w d k g in
        let y = T.σ_low _ (T.κ_low _ x) in
        let z = T.σ_low _ (T.κ_low _ (T.κ_low _ x)) in
        let t = g.pair.most in
        (omega arith, omega arith, omega arith)

    long1 : length w1 ≡ length w
    long1 = held_length w 0 pm pa pb

    long2 : length w2 ≡ length w
    long2 = length-set (held_set w 0 pm pa pb) (cell_place TODO k + 4) pb ∙ long1

    -- outside HELD nothing changed but the point and the new cell
    read1 : (j : ℕ) → (j < HELD) ⊎ (DONE ≤ j) → get_or w1 j 0 ≡ get_or w j 0
    read1 j o =
        let l = lows in
        get_or-set_other (set (set w (HELD + pm) 0) (HELD + pa) 1) (HELD + pb) j 1 0 (away pb l.2)
        ∙ get_or-set_other (set w (HELD + pm) 0) (HELD + pa) j 1 0 (away pa l.1)
        ∙ get_or-set_other w (HELD + pm) j 0 0 (away pm l.0)
      where
        away : (x : ℕ) → x < 4096 → j ≡ HELD + x → ⊥
        away x h q = elim o [ inl y ↦ omega arith | inr y ↦ omega arith ]

    read3 : (j : ℕ) → ¬ (j ≡ cell_place TODO k + 4) → j < cell_place TODO (suc k) → get_or w3 j 0 ≡ get_or w1 j 0
    read3 j h l = cell_other w2 (cell_place TODO (suc k)) (num - 1000000000) den pa j (inl l)
        ∙ get_or-set_other (held_set w 0 pm pa pb) (cell_place TODO k + 4) j pb 0 h

    kept_same : (x y : ℕ) → (y ≤ HELD) ⊎ (DONE ≤ x) → y ≤ cell_place TODO k + 4 → Same x y w w3
    kept_same x y o h = record { each = λ j p q. read3 j (λ z. omega arith) (omega arith) ∙ read1 j (side j p q o) }
      where
        side : (j : ℕ) → x ≤ j → j < y → (y ≤ HELD) ⊎ (DONE ≤ x) → (j < HELD) ⊎ (DONE ≤ j)
        side j p q (inl z) = inl (omega arith)
        side j p q (inr z) = inr (omega arith)

    room2 : cell_place TODO (suc k) + 5 ≤ length w2
    room2 = rw long2 (omega (arith, sized, g.long))

    new_end : 1000000000 ≤ num → end_at w3 (cell_place TODO (suc k)) ≡ mediant (last_in w d) (end_at w (cell_place TODO k))
    new_end h =
        vertex_eq
        (ap (λ (x : ℕ). pos x -ℤ pos limit) (cell_num w2 (cell_place TODO (suc k)) (num - 1000000000) den pa room2)
        ∙ sum_code limit (left_end_num w d) (two_cells w (cell_place TODO k)) h)
        (cell_den w2 (cell_place TODO (suc k)) (num - 1000000000) den pa room2)
        ∙ ap (λ (x : Vertex). mediant x (end_at w (cell_place TODO k))) (sym (last_code w d))

    new_point : point_at w3 (cell_place TODO (suc k)) ≡ pa
    new_point = cell_pt w2 (cell_place TODO (suc k)) (num - 1000000000) den pa room2

    old_end : end_at w3 (cell_place TODO k) ≡ end_at w (cell_place TODO k)
    old_end =
        let s' = kept_same (cell_place TODO k) (cell_place TODO k + 4) (inr (omega arith)) (omega arith) in
        vertex_eq
        (ap (λ (x : ℕ). pos x -ℤ pos limit) (number_same w w3 (cell_place TODO k) (s'.each (cell_place TODO k) (omega arith) (omega arith))
        (s'.each (cell_place TODO k + 1) (omega arith) (omega arith))))
        (number_same w w3 (cell_place TODO k + 2) (s'.each (cell_place TODO k + 2) (omega arith) (omega arith))
        (s'.each (cell_place TODO k + 2 + 1) (omega arith) (omega arith)))

    old_point : point_at w3 (cell_place TODO k) ≡ pb
    old_point = cell_other w2 (cell_place TODO (suc k)) (num - 1000000000) den pa (cell_place TODO k + 4) (inl (omega arith))
        ∙ get_or-set_same (held_set w 0 pm pa pb) (cell_place TODO k + 4) pb 0 (rw long1 (omega (arith, sized, g.long)))

    done_kept : Same DONE (cell_place DONE d) w w3
    done_kept = kept_same DONE (cell_place DONE d) (inr (omega arith)) (omega (arith, sized))

    parted_is : 1000000000 ≤ num → todo_in (last_in w3 d) w3 (suc (suc k)) ≡ lower_at σ κ (first w d k) ∷ upper_at σ κ (first w d k) ∷ rest w k
    parted_is h =
        let p = placed_eq (last_same w w3 d d (omega arith) done_kept) (new_end h) new_point in
        let q = placed_eq (new_end h) old_end old_point in
        let t = ap (λ (x : Vertex). todo_in x w3 k) old_end
        ∙ todo_same w w3 k k (end_at w (cell_place TODO k)) (omega arith) (kept_same TODO (cell_place TODO k) (inr (omega arith)) (omega arith)) in
        λ i. p i ∷ q i ∷ t i

    done_parted : done_in w3 d ≡ done_in w d
    done_parted = done_same w w3 d d (omega arith) done_kept

    pub walk_split : top_fits w d (suc k) ≡ true → fits (mediant (last_in w d) (end_at w (cell_place TODO k))) ≡ true → Walking s r start w3 d (suc (suc k))
    walk_split t f =
        let T = turn_of g.pair in
        let wide = (within_tells num den (rw (pred k) at t)).0 in
        let long3 = cell_length w2 (cell_place TODO (suc k)) (num - 1000000000) den pa ∙ long2 in
        let i = g.going.growing.inv in
        let hs = held_split σ κ n T (omega (arith, g.pair.most)) g.going.growing.tris (done_in w d) (first w d k) (rest w k) i none w w3
        (omega (arith, g.long)) g.held
        (λ x h. let z = g.pair.most in read3 (HELD + x) (λ q. omega arith) (omega arith)) in
        record {
          pair = g.pair;
          long = rw long3 g.long;
          going = rw (done_parted, parted_is wide) (going_split σ κ n start T (done_in w d) (first w d k) (rest w k) g.going none f);
          held = rw (done_parted, parted_is wide) hs;
          labels = λ x h. (kept_same LABEL HELD (inl (omega arith)) (omega arith)).each (LABEL + x) (omega arith) (omega arith) ∙ g.labels x h;
        }

  -- ---- one turn, and the end

  pub walk_turn : (w w' : List ℕ) (d k d' k' : ℕ) (stop : Bool) → Walking s r start w d k → 1 ≤ k → SideTaken σ κ w d k w' stop d' k' → stop ≡ false
      → Walking s r start w' d' k'
  walk_turn w w' d zero d' k' stop g h t e = absurd (omega arith)
  walk_turn w w' d (suc k) d' k' stop g h (moved c p q u v) e =
      let dd : d' ≡ suc d = u ∙ more d in
      let kk : k' ≡ k = v ∙ pred k in
      let ww : w' ≡ cell_set w (cell_place DONE d) (two_cells w (cell_place TODO k)) (two_cells w (cell_place TODO k + 2)) (point_at w (cell_place TODO k)) =
      rw (pred k) at p in
      rw (dd, kk, ww) (walk_move w d k g (rw (pred k) at c))
  walk_turn w w' d (suc k) d' k' stop g h (over c f p q u) e = clash q e
  walk_turn w w' d (suc k) d' k' stop g h (parted c f p q u v) e =
      let dd : d' ≡ d = u in
      let kk : k' ≡ suc (suc k) = v ∙ more (suc k) in
      let c' : closed_in σ κ w (point_at w (cell_place TODO k)) ≡ false = rw (pred k) at c in
      let ww = rw (pred k) at p in
      let f' : fits (mediant (last_in w d) (end_at w (cell_place TODO k))) ≡ true = rw (pred k) at (sym (fits_in_lem w d (suc k)) ∙ f) in
      rw (dd, kk, ww) (walk_split w d k g c' f f')

  pub walk_stop : (w w' : List ℕ) (d k d' k' : ℕ) (stop : Bool) → Walking s r start w d k → 1 ≤ k → SideTaken σ κ w d k w' stop d' k' → stop ≡ true
      → grow σ κ leftmost n start ≡ refused d'
  walk_stop w w' d zero d' k' stop g h t e = absurd (omega arith)
  walk_stop w w' d (suc k) d' k' stop g h (moved c p q u v) e = clash e q
  walk_stop w w' d (suc k) d' k' stop g h (over c f p q u) e =
      let c' : closed_in σ κ w (point_at w (cell_place TODO k)) ≡ false = rw (pred k) at c in
      let f' : fits (mediant (last_in w d) (end_at w (cell_place TODO k))) ≡ false = rw (pred k) at (sym (fits_in_lem w d (suc k)) ∙ f) in
      walk_over w d k g c' f' ∙ ap refused (sym u)
  walk_stop w w' d (suc k) d' k' stop g h (parted c f p q u v) e = clash e q

  -- the measure falls
  pub walk_less : (w w' : List ℕ) (d k d' k' : ℕ) (stop : Bool) → d + k ≤ 1024 → d' + k' ≤ 1024 → 1 ≤ k → SideTaken σ κ w d k w' stop d' k' → stop ≡ false
      → 2 * (1024 - (d' + k')) + k' < 2 * (1024 - (d + k)) + k
  walk_less w w' d k d' k' stop a b h (moved c p q u v) e = omega arith
  walk_less w w' d k d' k' stop a b h (over c f p q u) e = clash q e
  walk_less w w' d k d' k' stop a b h (parted c f p q u v) e = omega arith

  pub turned_length : (w w' : List ℕ) (d k d' k' : ℕ) (stop : Bool) → SideTaken σ κ w d k w' stop d' k' → length w' ≡ length w
  turned_length w w' d k d' k' stop (moved c p q u v) = ap length p ∙ cell_length w (cell_place DONE d) _ _ _
  turned_length w w' d k d' k' stop (over c f p q u) = ap length p
  turned_length w w' d k d' k' stop (parted c f p q u v) =
      let t = top_point w k in
      ap length p ∙ cell_length (set (held_set w 0 t (σ (κ t)) (σ (κ (κ t)))) (cell_place TODO (k - 1) + 4) (σ (κ (κ t)))) (cell_place TODO k) _ _ _
      ∙ length-set (held_set w 0 t (σ (κ t)) (σ (κ (κ t)))) (cell_place TODO (k - 1) + 4) (σ (κ (κ t))) ∙ held_length w 0 t (σ (κ t)) (σ (κ (κ t)))

  pub walk_end : (w : List ℕ) (d k : ℕ) → Walking s r start w d k → k ≡ 0 → grow σ κ leftmost n start ≡ finished (done_in w d)
  walk_end w d k g e =
      let g' : Walking s r start w d 0 = rw e at g in
      going_end σ κ n start (turn_of g.pair) (done_in w d) g'.going
