-- The start of the walk in a clear work space, and what the walk leaves at its end.
-- Assumes nothing.
use mathlib.Core.Path.{◌≡◌, refl, sym, ◌∙◌, ap}
use mathlib.Core.Logic.{◌⊎◌, inl, inr}
use mathlib.Core.Bool.{Bool, true, false, ◌&&◌}
use mathlib.Core.List.{List, [], ◌∷◌, ◌++◌, append-nil}
use Prim.Native.Nat.{ℕ, zero, suc, ◌+◌, ◌-◌, ◌*◌, ◌≤◌, ◌<◌}
use native.Mathlib.Omega.{arith}
use native.Mathlib.Decide.{ℕ_discrete, dec_lt}
use lib.Dec.{eqb, lit≤}
use lib.ListN.{length, get_or, set, length-set}
use lib.Seq.{get_or-set_same, get_or-set_other}
use lib.IntN.{ℤ, pos, negsuc, ◌-ℤ◌}
use borrow.Author.Tests.{eq-eqb, ne_eqb}
use Rattle.basics.specs.Choice.{pick}
use Rattle.basics.proofs.Choice.{pick_true, pick_false}
use Rattle.permutations.specs.Pair.{image, Pair}
use Rattle.import_rule.specs.Fixed.{by_q}
use Rattle.import_rule.specs.Side.{Vertex, vertex, minus_infinity, infinity, limit}
use Rattle.import_rule.specs.Order.{leftmost}
use Rattle.import_rule.specs.Inner.Placed.{Placed, placed_side, pts, start_placed}
use Rattle.import_sides.specs.Inner.Work.{LABEL, HELD, DONE, TODO, cell_place, end_at, point_at, last_in, done_in, todo_in, cell_set, held_set, start_by}
use Rattle.import_sides.specs.Inner.Work.{start_in, Ground, Whole}
use Rattle.import_rule.proofs.Member.{In, in_left, in_right}
use Rattle.import_rule.proofs.Kept.{Inv}
use Rattle.import_rule.proofs.Theorem.{Started, started}
use Rattle.import_rule.proofs.Going.{Going, going_start}
use Rattle.import_sides.proofs.Cells.{cell_length, cell_other, cell_num, cell_den, cell_pt}
use Rattle.import_sides.proofs.Decode.{diff_above, diff_below}
use Rattle.import_sides.proofs.Held.{Same, vertex_eq, end_same, point_same, placed_eq, HeldIn, length_done}
use Rattle.import_sides.proofs.Walking.{Walking, walk_size, walk_end, turn_of}

-- ---- three sides

module _ (w : List ℕ) (long : 32768 ≤ length w) (clear : (j : ℕ) → get_or w j 0 ≡ 0) (e2 e1 p2 p1 p0 : ℕ) (l2 : p2 < 4096) (l1 : p1 < 4096) (l0 : p0 < 4096) where
  abbrev H : List ℕ
  H = held_set w 1 p2 p1 p0

  abbrev A : List ℕ
  A = cell_set H TODO 1000000001 0 p0

  abbrev B : List ℕ
  B = cell_set A (TODO + 5) e1 1 p1

  abbrev W : List ℕ
  W = start_by w e2 e1 p2 p1 p0

  H_long : length H ≡ length w
  H_long = simp length-set

  A_long : length A ≡ length w
  A_long = cell_length H TODO 1000000001 0 p0 ∙ H_long

  B_long : length B ≡ length w
  B_long = cell_length A (TODO + 5) e1 1 p1 ∙ A_long

  pub W_long : length W ≡ length w
  W_long = cell_length B (TODO + 10) e2 1 p2 ∙ B_long

  in_B : Same 0 20490 B W
  in_B = record { each = λ j h k. cell_other B (TODO + 10) e2 1 p2 j (inl k) }

  in_A : Same 0 20485 A B
  in_A = record { each = λ j h k. cell_other A (TODO + 5) e1 1 p1 j (inl k) }

  in_H : Same 0 20480 H A
  in_H = record { each = λ j h k. cell_other H TODO 1000000001 0 p0 j (inl k) }

  code : ℕ → ℕ → Vertex
  code e d = vertex (pos e -ℤ pos limit) d

  end_2 : end_at W 20490 ≡ code e2 1
  unfolding code
  end_2 = vertex_eq (ap (λ (x : ℕ). pos x -ℤ pos limit) (cell_num B (TODO + 10) e2 1 p2 (rw B_long (omega arith))))
      (cell_den B (TODO + 10) e2 1 p2 (rw B_long (omega arith)))

  end_1 : end_at W 20485 ≡ code e1 1
  unfolding code
  end_1 =
      end_same 0 20490 20485 B W in_B (omega arith) (omega arith)
      ∙ vertex_eq (ap (λ (x : ℕ). pos x -ℤ pos limit) (cell_num A (TODO + 5) e1 1 p1 (rw A_long (omega arith))))
      (cell_den A (TODO + 5) e1 1 p1 (rw A_long (omega arith)))

  end_0 : end_at W 20480 ≡ code 1000000001 0
  unfolding code
  end_0 =
      end_same 0 20490 20480 B W in_B (omega arith) (omega arith) ∙ end_same 0 20485 20480 A B in_A (omega arith) (omega arith)
      ∙ vertex_eq (ap (λ (x : ℕ). pos x -ℤ pos limit) (cell_num H TODO 1000000001 0 p0 (rw H_long (omega arith))))
      (cell_den H TODO 1000000001 0 p0 (rw H_long (omega arith)))

  pt_2 : point_at W 20490 ≡ p2
  pt_2 = cell_pt B (TODO + 10) e2 1 p2 (rw B_long (omega arith))

  pt_1 : point_at W 20485 ≡ p1
  pt_1 = point_same 0 20490 20485 B W in_B (omega arith) (omega arith) ∙ cell_pt A (TODO + 5) e1 1 p1 (rw A_long (omega arith))

  pt_0 : point_at W 20480 ≡ p0
  pt_0 = point_same 0 20490 20480 B W in_B (omega arith) (omega arith) ∙ point_same 0 20485 20480 A B in_A (omega arith) (omega arith)
      ∙ cell_pt H TODO 1000000001 0 p0 (rw H_long (omega arith))

  pub three_sides : (x2 x1 : Vertex) → vertex (pos e2 -ℤ pos limit) 1 ≡ x2 → vertex (pos e1 -ℤ pos limit) 1 ≡ x1
      → todo_in minus_infinity W 3 ≡ placed_side minus_infinity x2 p2 ∷ placed_side x2 x1 p1 ∷ placed_side x1 infinity p0 ∷ []
  unfolding code
  three_sides x2 x1 a b =
      let q2 = end_2 ∙ a in
      let q1 = end_1 ∙ b in
      let q0 = end_0 ∙ vertex_eq (diff_above 1000000001 limit (lit≤ tt)) refl in
      let r2 = placed_eq {x = minus_infinity} refl q2 pt_2 in
      let r1 = placed_eq q2 q1 pt_1 in
      let r0 = placed_eq q1 q0 pt_0 in
      λ i. r2 i ∷ r1 i ∷ r0 i ∷ []

  -- below the cells only HELD was written
  low_read : (j : ℕ) → j < 20480 → get_or W j 0 ≡ get_or H j 0
  low_read j h = in_B.each j (omega arith) (omega arith) ∙ in_A.each j (omega arith) (omega arith) ∙ in_H.each j (omega arith) h

  pub label_clear : (x : ℕ) → x < 4096 → get_or W (LABEL + x) 0 ≡ 0
  label_clear x h =
      low_read (LABEL + x) (omega arith)
      ∙ get_or-set_other (set (set w (HELD + p2) 1) (HELD + p1) 1) (HELD + p0) (LABEL + x) 1 0 (λ q. omega arith)
      ∙ get_or-set_other (set w (HELD + p2) 1) (HELD + p1) (LABEL + x) 1 0 (λ q. omega arith)
      ∙ get_or-set_other w (HELD + p2) (LABEL + x) 1 0 (λ q. omega arith)
      ∙ clear (LABEL + x)

  at_0 : (x : ℕ) → x ≡ p0 → get_or H (HELD + x) 0 ≡ 1
  at_0 x e = ap (λ (y : ℕ). get_or H (HELD + y) 0) e
      ∙ get_or-set_same (set (set w (HELD + p2) 1) (HELD + p1) 1) (HELD + p0) 1 0
      (rw (length-set (set w (HELD + p2) 1) (HELD + p1) 1, length-set w (HELD + p2) 1) (omega arith))

  at_1 : (x : ℕ) → ¬ (x ≡ p0) → x ≡ p1 → get_or H (HELD + x) 0 ≡ 1
  at_1 x f e =
      get_or-set_other (set (set w (HELD + p2) 1) (HELD + p1) 1) (HELD + p0) (HELD + x) 1 0 (λ q. f (omega arith))
      ∙ ap (λ (y : ℕ). get_or (set (set w (HELD + p2) 1) (HELD + p1) 1) (HELD + y) 0) e
      ∙ get_or-set_same (set w (HELD + p2) 1) (HELD + p1) 1 0 (rw (length-set w (HELD + p2) 1) (omega arith))

  at_2 : (x : ℕ) → ¬ (x ≡ p0) → ¬ (x ≡ p1) → x ≡ p2 → get_or H (HELD + x) 0 ≡ 1
  at_2 x f g e =
      get_or-set_other (set (set w (HELD + p2) 1) (HELD + p1) 1) (HELD + p0) (HELD + x) 1 0 (λ q. f (omega arith))
      ∙ get_or-set_other (set w (HELD + p2) 1) (HELD + p1) (HELD + x) 1 0 (λ q. g (omega arith))
      ∙ ap (λ (y : ℕ). get_or (set w (HELD + p2) 1) (HELD + y) 0) e
      ∙ get_or-set_same w (HELD + p2) 1 0 (omega arith)

  at_none : (x : ℕ) → ¬ (x ≡ p0) → ¬ (x ≡ p1) → ¬ (x ≡ p2) → get_or H (HELD + x) 0 ≡ 0
  at_none x f g h =
      get_or-set_other (set (set w (HELD + p2) 1) (HELD + p1) 1) (HELD + p0) (HELD + x) 1 0 (λ q. f (omega arith))
      ∙ get_or-set_other (set w (HELD + p2) 1) (HELD + p1) (HELD + x) 1 0 (λ q. g (omega arith))
      ∙ get_or-set_other w (HELD + p2) (HELD + x) 1 0 (λ q. h (omega arith))
      ∙ clear (HELD + x)

  one : (x y : ℕ) → x ≡ y → y ≡ 1 → ¬ (x ≡ 0)
  one x y e f z = omega arith

  pub three_held : (n : ℕ) → n ≤ 4096 → (l : List Placed) → pts l ≡ p2 ∷ p1 ∷ p0 ∷ [] → HeldIn n W l
  three_held n top l e = record { yes = λ x i. there x (rw e at i); no = λ x h z. rw e (back x h z) }
    where
      there : (x : ℕ) → In x (p2 ∷ p1 ∷ p0 ∷ []) → ¬ (get_or W (HELD + x) 0 ≡ 0)
      there x i = go (ℕ_discrete x p0) (ℕ_discrete x p1) i
        where
          low : x < 4096
          low = elim i [ inl a ↦ omega arith | inr b ↦ elim b [ inl a ↦ omega arith | inr c ↦ elim c [ inl a ↦ omega arith | inr z ↦ absurd z ] ] ]

          go : Dec (x ≡ p0) → Dec (x ≡ p1) → In x (p2 ∷ p1 ∷ p0 ∷ []) → ¬ (get_or W (HELD + x) 0 ≡ 0)
          go (yes a) b i = one _ _ (low_read (HELD + x) (omega (arith, low))) (at_0 x a)
          go (no a) (yes b) i = one _ _ (low_read (HELD + x) (omega (arith, low))) (at_1 x a b)
          go (no a) (no b) (inl c) = one _ _ (low_read (HELD + x) (omega (arith, low))) (at_2 x a b c)
          go (no a) (no b) (inr (inl c)) = absurd (b c)
          go (no a) (no b) (inr (inr (inl c))) = absurd (a c)
          go (no a) (no b) (inr (inr (inr c))) = absurd c

      back : (x : ℕ) → x < n → ¬ (get_or W (HELD + x) 0 ≡ 0) → In x (p2 ∷ p1 ∷ p0 ∷ [])
      back x h z = go (ℕ_discrete x p0) (ℕ_discrete x p1) (ℕ_discrete x p2)
        where
          go : Dec (x ≡ p0) → Dec (x ≡ p1) → Dec (x ≡ p2) → In x (p2 ∷ p1 ∷ p0 ∷ [])
          go (yes a) b c = inr (inr (inl a))
          go (no a) (yes b) c = inr (inl b)
          go (no a) (no b) (yes c) = inl c
          go (no a) (no b) (no c) = absurd (z (low_read (HELD + x) (omega arith) ∙ at_none x a b c))

-- ---- the start

module _ (s r w : List ℕ) (g : Ground s r w) where
  abbrev σ : ℕ → ℕ
  σ = image s

  abbrev κ : ℕ → ℕ
  κ = by_q (image s) (image r)

  abbrev n : ℕ
  n = length s

  abbrev start : List Placed
  start = start_placed (image s) (by_q (image s) (image r))

  ready : Started σ κ n (turn_of s r start g.pair) start
  ready = started σ κ n (turn_of s r start g.pair) (eqb (κ 0) 0) refl g.large

  low : (x : ℕ) → x < n → x < 4096
  low x h = let t = g.pair.most in omega arith

  walking_by : (e2 e1 p2 p1 p0 : ℕ) (x2 x1 : Vertex) → p2 < n → p1 < n → p0 < n → vertex (pos e2 -ℤ pos limit) 1 ≡ x2 → vertex (pos e1 -ℤ pos limit) 1 ≡ x1
      → start ≡ placed_side minus_infinity x2 p2 ∷ placed_side x2 x1 p1 ∷ placed_side x1 infinity p0 ∷ [] → Walking s r start (start_by w e2 e1 p2 p1 p0) 0 3
  walking_by e2 e1 p2 p1 p0 x2 x1 a b c p q e =
      let l2 = low p2 a in
      let l1 = low p1 b in
      let l0 = low p0 c in
      let t = three_sides w g.long g.clear e2 e1 p2 p1 p0 l2 l1 l0 x2 x1 p q ∙ sym e in
      let k = ready in
      record {
        pair = g.pair;
        long = rw (W_long w g.long g.clear e2 e1 p2 p1 p0 l2 l1 l0) g.long;
        going = rw t (going_start σ κ n start (turn_of s r start g.pair) k.tri k.inv k.kept);
        held = rw t (three_held w g.long g.clear e2 e1 p2 p1 p0 l2 l1 l0 n (let z = g.pair.most in omega arith) start (ap pts e));
        labels = label_clear w g.long g.clear e2 e1 p2 p1 p0 l2 l1 l0;
      }

  pub walk_start : (w' : List ℕ) → w' ≡ start_in σ κ w → Walking s r start w' 0 3
  walk_start w' is = rw is (go (eqb (κ 0) 0) refl)
    where
      z : 0 < n
      z = (turn_of s r start g.pair).some

      sl : (x : ℕ) → x < n → σ x < n
      sl = (turn_of s r start g.pair).σ_low

      kl : (x : ℕ) → x < n → κ x < n
      kl = (turn_of s r start g.pair).κ_low

      go : (b : Bool) → eqb (κ 0) 0 ≡ b → Walking s r start (start_in σ κ w) 0 3
      go true e = rw (pick_true (eqb (κ 0) 0) (start_by w 999999999 1000000000 (σ (κ (σ 0))) (σ (κ (κ (σ 0)))) 0)
          (start_by w 1000000000 1000000001 (σ 0) (σ (κ 0)) (σ (κ (κ 0)))) e)
          (walking_by 999999999 1000000000 (σ (κ (σ 0))) (σ (κ (κ (σ 0)))) 0 (vertex (negsuc 0) 1) (vertex (pos 0) 1) (sl _ (kl _ (sl _ z)))
          (sl _ (kl _ (kl _ (sl _ z)))) z
          (vertex_eq (diff_below 999999999 limit (lit≤ tt)) refl) (vertex_eq (diff_above 1000000000 limit (lit≤ tt)) refl) (pick_true (eqb (κ 0) 0) _ _ e))
      go false e = rw (pick_false (eqb (κ 0) 0) (start_by w 999999999 1000000000 (σ (κ (σ 0))) (σ (κ (κ (σ 0)))) 0)
          (start_by w 1000000000 1000000001 (σ 0) (σ (κ 0)) (σ (κ (κ 0)))) e)
          (walking_by 1000000000 1000000001 (σ 0) (σ (κ 0)) (σ (κ (κ 0))) (vertex (pos 0) 1) (vertex (pos 1) 1) (sl _ z) (sl _ (kl _ z)) (sl _ (kl _ (kl _ z)))
          (vertex_eq (diff_above 1000000000 limit (lit≤ tt)) refl) (vertex_eq (diff_above 1000000001 limit (lit≤ tt)) refl) (pick_false (eqb (κ 0) 0) _ _ e))

  -- the sides to do at the start are those of the rule
  pub start_sides : (w' : List ℕ) → w' ≡ start_in σ κ w → todo_in minus_infinity w' 3 ≡ start
  start_sides w' is = rw is (go (eqb (κ 0) 0) refl)
    where
      z : 0 < n
      z = (turn_of s r start g.pair).some

      sl : (x : ℕ) → x < n → σ x < n
      sl = (turn_of s r start g.pair).σ_low

      kl : (x : ℕ) → x < n → κ x < n
      kl = (turn_of s r start g.pair).κ_low

      by : (e2 e1 p2 p1 p0 : ℕ) (x2 x1 : Vertex) → p2 < n → p1 < n → p0 < n → vertex (pos e2 -ℤ pos limit) 1 ≡ x2 → vertex (pos e1 -ℤ pos limit) 1 ≡ x1
          → start ≡ placed_side minus_infinity x2 p2 ∷ placed_side x2 x1 p1 ∷ placed_side x1 infinity p0 ∷ [] → todo_in minus_infinity (start_by w e2 e1 p2 p1 p0) 3
          ≡ start
      by e2 e1 p2 p1 p0 x2 x1 a b c p q e = three_sides w g.long g.clear e2 e1 p2 p1 p0 (low p2 a) (low p1 b) (low p0 c) x2 x1 p q ∙ sym e

      go : (b : Bool) → eqb (κ 0) 0 ≡ b → todo_in minus_infinity (start_in σ κ w) 3 ≡ start
      go true e =
          rw (pick_true (eqb (κ 0) 0) (start_by w 999999999 1000000000 (σ (κ (σ 0))) (σ (κ (κ (σ 0)))) 0)
          (start_by w 1000000000 1000000001 (σ 0) (σ (κ 0)) (σ (κ (κ 0)))) e)
          (by 999999999 1000000000 (σ (κ (σ 0))) (σ (κ (κ (σ 0)))) 0 (vertex (negsuc 0) 1) (vertex (pos 0) 1) (sl _ (kl _ (sl _ z)))
          (sl _ (kl _ (kl _ (sl _ z)))) z
          (vertex_eq (diff_below 999999999 limit (lit≤ tt)) refl) (vertex_eq (diff_above 1000000000 limit (lit≤ tt)) refl) (pick_true (eqb (κ 0) 0) _ _ e))
      go false e =
          rw (pick_false (eqb (κ 0) 0) (start_by w 999999999 1000000000 (σ (κ (σ 0))) (σ (κ (κ (σ 0)))) 0)
          (start_by w 1000000000 1000000001 (σ 0) (σ (κ 0)) (σ (κ (κ 0)))) e)
          (by 1000000000 1000000001 (σ 0) (σ (κ 0)) (σ (κ (κ 0))) (vertex (pos 0) 1) (vertex (pos 1) 1) (sl _ z) (sl _ (kl _ z)) (sl _ (kl _ (kl _ z)))
          (vertex_eq (diff_above 1000000000 limit (lit≤ tt)) refl) (vertex_eq (diff_above 1000000001 limit (lit≤ tt)) refl) (pick_false (eqb (κ 0) 0) _ _ e))

-- ---- the end

pub done_in_lem : (w : List ℕ) (d i : ℕ) → i < d → In (placed_side (last_in w i) (end_at w (cell_place DONE i)) (point_at w (cell_place DONE i))) (done_in w d)
done_in_lem w zero i h = absurd (omega arith)
done_in_lem w (suc d) i h = elim (dec_lt i d) [
  | yes k ↦ in_left _ (done_in w d) _ (done_in_lem w d i k)
  | no k ↦ (let e : i ≡ d = omega arith in
      rw e (in_right _ (done_in w d) (placed_side (last_in w d) (end_at w (cell_place DONE d)) (point_at w (cell_place DONE d)) ∷ []) (inl refl)))
]

pub walk_whole : (s r w : List ℕ) (d k : ℕ) → Walking s r (start_placed (image s) (by_q (image s) (image r))) w d k → k ≡ 0 → Whole leftmost s r w d
walk_whole s r w d k g e =
    let st = start_placed (image s) (by_q (image s) (image r)) in
    let g' : Walking s r st w d 0 = rw e at g in
    record {
      is = walk_end s r st w d k g e;
      done = record {
        pair = g.pair;
        long = g.long;
        some = let m = g'.going.growing.kept.shape.many in omega (arith, ap length (append-nil (done_in w d)), length_done w d);
        most = let z = walk_size s r st w d k g in omega arith;
        points = λ i h. g'.going.growing.inv.low _ (in_left _ (done_in w d) [] (done_in_lem w d i h));
        labels = g.labels;
      };
    }
