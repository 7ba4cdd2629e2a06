-- The start sides, held, linked and queued (`state_start`).
--
-- In order: what is read after the nine stores; the law.
-- Assumes nothing.
use mathlib.Core.Path.{◌≡◌, refl, sym, ◌∙◌, ap}
use mathlib.Core.Logic.{◌⊎◌, inl, inr}
use mathlib.Core.List.{List, [], ◌∷◌}
use Prim.Native.Nat.{ℕ, suc, ◌+◌, ◌-◌, ◌≤◌, ◌<◌}
use native.Mathlib.Omega.{arith}
use native.Mathlib.Decide.{ℕ_discrete}
use lib.Dec.{eqb}
use lib.ListN.{length, get_or, set, length-set}
use lib.Seq.{get_or-set_same, get_or-set_other}
use lib.IntN.{pos, ◌-ℤ◌}
use Rattle.import_rule.specs.Side.{minus_infinity, limit}
use Rattle.import_rule.specs.Inner.Placed.{Placed, pts, start_placed}
use Rattle.permutations.specs.Pair.{image}
use Rattle.import_rule.specs.Fixed.{by_q}
use Rattle.import_rule.proofs.Member.{In, Apart}
use Rattle.import_rule.proofs.Split.{pt_of}
use Rattle.import_rule.proofs.Theorem.{Started, started}
use Rattle.import_sides.proofs.Serving.{Serving, serving_start}
use Rattle.import_sides.specs.Inner.Work.{LABEL, HELD, DONE, TODO, cell_place, end_at, point_at, start_in, Ground}
use Rattle.import_sides.proofs.Cells.{number_same}
use Rattle.import_sides.proofs.Held.{vertex_eq}
use Rattle.import_sides.proofs.Walking.{Walking}
use Rattle.import_sides.proofs.Begin.{walk_start, start_sides}
use Rattle.import_sides.specs.Inner.Cells.{LINK, QUEUE, link_at, held_at, queue_at, Linked, Three, begun}
use Rattle.import_sides.proofs.Along.{along_same, queue_from}
use Rattle.import_sides.proofs.State.{sides, State, Between, turns}

module _ (w : List ℕ) (f : Three w) where
  abbrev p2 : ℕ
  p2 = point_at w (cell_place TODO 2)

  abbrev p1 : ℕ
  p1 = point_at w (cell_place TODO 1)

  abbrev p0 : ℕ
  p0 = point_at w (cell_place TODO 0)

  abbrev h1 : List ℕ
  h1 = set w (HELD + p2) 3

  abbrev h2 : List ℕ
  h2 = set h1 (HELD + p1) 2

  abbrev h3 : List ℕ
  h3 = set h2 (HELD + p0) 1

  abbrev l1 : List ℕ
  l1 = set h3 (LINK + 0) 2

  abbrev l2 : List ℕ
  l2 = set l1 (LINK + 1) 3

  abbrev l3 : List ℕ
  l3 = set l2 (LINK + 2) 0

  abbrev q1 : List ℕ
  q1 = set l3 (QUEUE + 0) p2

  abbrev q2 : List ℕ
  q2 = set q1 (QUEUE + 1) p1

  pub begun_long : length (begun w) ≡ length w
  begun_long = simp length-set

  long_l3 : length l3 ≡ length w
  long_l3 = simp length-set

  long_h3 : length h3 ≡ length w
  long_h3 = simp length-set

  -- below the queue, and below the links
  read_l : (j : ℕ) → j < QUEUE → get_or (begun w) j 0 ≡ get_or l3 j 0
  read_l j h =
      get_or-set_other q2 (QUEUE + 2) j p0 0 (λ z. omega arith) ∙ get_or-set_other q1 (QUEUE + 1) j p1 0 (λ z. omega arith)
      ∙ get_or-set_other l3 (QUEUE + 0) j p2 0 (λ z. omega arith)

  read_h : (j : ℕ) → j < LINK → get_or (begun w) j 0 ≡ get_or h3 j 0
  read_h j h =
      read_l j (omega arith) ∙ get_or-set_other l2 (LINK + 2) j 0 0 (λ z. omega arith) ∙ get_or-set_other l1 (LINK + 1) j 3 0 (λ z. omega arith)
      ∙ get_or-set_other h3 (LINK + 0) j 2 0 (λ z. omega arith)

  away : (j x : ℕ) → x < 4096 → (j < HELD) ⊎ (DONE ≤ j) → ¬ (j ≡ HELD + x)
  away j x h (inl o) q = omega arith
  away j x h (inr o) q = omega arith

  pub read_w : (j : ℕ) → j < LINK → (j < HELD) ⊎ (DONE ≤ j) → get_or (begun w) j 0 ≡ get_or w j 0
  read_w j h o =
      read_h j h ∙ get_or-set_other h2 (HELD + p0) j 1 0 (away j p0 f.low0 o) ∙ get_or-set_other h1 (HELD + p1) j 2 0 (away j p1 f.low1 o)
      ∙ get_or-set_other w (HELD + p2) j 3 0 (away j p2 f.low2 o)

  pub held_0 : (x : ℕ) → x ≡ p0 → held_at (begun w) x ≡ 1
  held_0 x e = ap (held_at (begun w)) e ∙ read_h (HELD + p0) (omega arith) ∙ get_or-set_same h2 (HELD + p0) 1 0 (simp length-set (omega arith))

  pub held_1 : (x : ℕ) → ¬ (x ≡ p0) → x ≡ p1 → held_at (begun w) x ≡ 2
  held_1 x n0 e =
      read_h (HELD + x) (omega arith) ∙ get_or-set_other h2 (HELD + p0) (HELD + x) 1 0 (λ z. n0 (omega arith))
      ∙ ap (λ (y : ℕ). get_or h2 (HELD + y) 0) e ∙ get_or-set_same h1 (HELD + p1) 2 0 (simp length-set (omega arith))

  pub held_2 : (x : ℕ) → ¬ (x ≡ p0) → ¬ (x ≡ p1) → x ≡ p2 → held_at (begun w) x ≡ 3
  held_2 x n0 n1 e =
      read_h (HELD + x) (omega arith) ∙ get_or-set_other h2 (HELD + p0) (HELD + x) 1 0 (λ z. n0 (omega arith))
      ∙ get_or-set_other h1 (HELD + p1) (HELD + x) 2 0 (λ z. n1 (omega arith))
      ∙ ap (λ (y : ℕ). get_or h1 (HELD + y) 0) e ∙ get_or-set_same w (HELD + p2) 3 0 (omega arith)

  pub held_3 : (x : ℕ) → x < 4096 → ¬ (x ≡ p0) → ¬ (x ≡ p1) → ¬ (x ≡ p2) → held_at (begun w) x ≡ held_at w x
  held_3 x l n0 n1 n2 =
      read_h (HELD + x) (omega arith) ∙ get_or-set_other h2 (HELD + p0) (HELD + x) 1 0 (λ z. n0 (omega arith))
      ∙ get_or-set_other h1 (HELD + p1) (HELD + x) 2 0 (λ z. n1 (omega arith))
      ∙ get_or-set_other w (HELD + p2) (HELD + x) 3 0 (λ z. n2 (omega arith))

  pub linked_start : Linked (begun w) 1 (0 ∷ 1 ∷ 2 ∷ [])
  linked_start = (refl, omega arith, (link_0, omega arith, (link_1, omega arith, link_2)))
    where
      link_0 : link_at (begun w) 0 ≡ 2
      link_0 =
          read_l (LINK + 0) (omega arith) ∙ get_or-set_other l2 (LINK + 2) (LINK + 0) 0 0 (λ z. omega arith)
          ∙ get_or-set_other l1 (LINK + 1) (LINK + 0) 3 0 (λ z. omega arith) ∙ get_or-set_same h3 (LINK + 0) 2 0 (simp length-set (omega arith))

      link_1 : link_at (begun w) 1 ≡ 3
      link_1 =
          read_l (LINK + 1) (omega arith) ∙ get_or-set_other l2 (LINK + 2) (LINK + 1) 0 0 (λ z. omega arith)
          ∙ get_or-set_same l1 (LINK + 1) 3 0 (simp length-set (omega arith))

      link_2 : link_at (begun w) 2 ≡ 0
      link_2 = read_l (LINK + 2) (omega arith) ∙ get_or-set_same l2 (LINK + 2) 0 0 (simp length-set (omega arith))

  pub queue_start : queue_from (begun w) 0 3 ≡ p2 ∷ p1 ∷ p0 ∷ []
  queue_start =
      let a : queue_at (begun w) 0 ≡ p2 = get_or-set_other q2 (QUEUE + 2) (QUEUE + 0) p0 0 (λ z. omega arith)
      ∙ get_or-set_other q1 (QUEUE + 1) (QUEUE + 0) p1 0 (λ z. omega arith) ∙ get_or-set_same l3 (QUEUE + 0) p2 0 (simp length-set (omega arith)) in
      let b : queue_at (begun w) 1 ≡ p1 = get_or-set_other q2 (QUEUE + 2) (QUEUE + 1) p0 0 (λ z. omega arith)
      ∙ get_or-set_same q1 (QUEUE + 1) p1 0 (simp length-set (omega arith)) in
      let c : queue_at (begun w) 2 ≡ p0 = get_or-set_same q2 (QUEUE + 2) p0 0 (simp length-set (omega arith)) in
      λ i. a i ∷ b i ∷ c i ∷ []

  -- the cells stay
  cell_read : (x i : ℕ) → x < 1024 → i < 5 → get_or (begun w) (cell_place TODO x + i) 0 ≡ get_or w (cell_place TODO x + i) 0
  cell_read x i h g = read_w (cell_place TODO x + i) (omega arith) (inr (omega arith))

  pub cell_pt : (x : ℕ) → x < 1024 → point_at (begun w) (cell_place TODO x) ≡ point_at w (cell_place TODO x)
  cell_pt x h = cell_read x 4 h (omega arith)

  pub cell_end : (x : ℕ) → x < 1024 → end_at (begun w) (cell_place TODO x) ≡ end_at w (cell_place TODO x)
  cell_end x h = vertex_eq
      (ap (λ (y : ℕ). pos y -ℤ pos limit) (number_same w (begun w) (cell_place TODO x) (read_w (cell_place TODO x) (omega arith) (inr (omega arith)))
      (cell_read x 1 h (omega arith))))
      (number_same w (begun w) (cell_place TODO x + 2) (cell_read x 2 h (omega arith)) (read_w (cell_place TODO x + 2 + 1) (omega arith) (inr (omega arith))))

abbrev pub start_path : List ℕ
start_path = 0 ∷ 1 ∷ 2 ∷ []

path_low : (c : ℕ) → In c start_path → c < 3
path_low c (inl e) = omega arith
path_low c (inr (inl e)) = omega arith
path_low c (inr (inr (inl e))) = omega arith
path_low c (inr (inr (inr e))) = absurd e

path_apart : Apart start_path
path_apart = (zero_out, (one_out, ((λ h. h), tt)))
  where
    one_out : In {A = ℕ} 1 (2 ∷ []) → ⊥
    one_out (inl e) = omega arith
    one_out (inr h) = h

    zero_out : In {A = ℕ} 0 (1 ∷ 2 ∷ []) → ⊥
    zero_out (inl e) = omega arith
    zero_out (inr (inl e)) = omega arith
    zero_out (inr (inr h)) = h

module _ (s r w₀ : List ℕ) (g : Ground s r w₀) (w : List ℕ) (is : w ≡ start_in (image s) (by_q (image s) (image r)) w₀) where
  abbrev start : List Placed
  start = start_placed (image s) (by_q (image s) (image r))

  walking : Walking s r start w 0 3
  walking = walk_start s r w₀ g w is

  begins : Started (image s) (by_q (image s) (image r)) (length s) (turns s r start g.pair) start
  begins = started (image s) (by_q (image s) (image r)) (length s) (turns s r start g.pair) (eqb (by_q (image s) (image r) 0) 0) refl g.large

  -- the sides in the cells
  there : sides s r start w start_path ≡ start
  there = start_sides s r w₀ g w is

  points : pts start ≡ point_at w (cell_place TODO 2) ∷ point_at w (cell_place TODO 1) ∷ point_at w (cell_place TODO 0) ∷ []
  points = ap pts (sym there)

  low : (x : ℕ) → In x (pts start) → x < length s
  low x i = let k = pt_of x start i in rw k.pt (begins.inv.low k.side k.among)

  in_2 : In (point_at w (cell_place TODO 2)) (pts start)
  in_2 = rw points (inl refl)

  in_1 : In (point_at w (cell_place TODO 1)) (pts start)
  in_1 = rw points (inr (inl refl))

  in_0 : In (point_at w (cell_place TODO 0)) (pts start)
  in_0 = rw points (inr (inr (inl refl)))

  small : (x : ℕ) → x < length s → x < 4096
  small x l = let t = g.pair.most in omega arith

  pub three : Three w
  three = record { long = walking.long; low2 = small _ (low _ in_2); low1 = small _ (low _ in_1); low0 = small _ (low _ in_0) }

  three_apart : Apart (point_at w (cell_place TODO 2) ∷ point_at w (cell_place TODO 1) ∷ point_at w (cell_place TODO 0) ∷ [])
  three_apart = rw points at begins.inv.apart

  there' : sides s r start (begun w) start_path ≡ start
  there' =
      along_same w (begun w) minus_infinity start_path
      (λ c i. let k = path_low c i in cell_end w three c (omega arith))
      (λ c i. let k = path_low c i in cell_pt w three c (omega arith))
      ∙ there

  in_by : (x : ℕ) (l l' : List Placed) → l ≡ l' → In x (pts l') → In x (pts l)
  in_by x l l' e h = rw e h

  serving_by : (q q' : List ℕ) (l l' : List Placed) → q ≡ q' → l ≡ l' → Serving (image s) (by_q (image s) (image r)) (length s) start q' l'
      → Serving (image s) (by_q (image s) (image r)) (length s) start q l
  serving_by q q' l l' d e h = rw (d, e) h

  pub state_start : State s r start (begun w) start_path 0 3 3
  state_start = record {
    pair = g.pair;
    long = rw (begun_long w three) walking.long;
    linked = linked_start w three;
    apart = path_apart;
    low = path_low;
    count = refl;
    tail = omega arith;
    serving = serving_by _ _ _ _ (queue_start w three ∙ sym points) there'
        (serving_start (image s) (by_q (image s) (image r)) (length s) start (turns s r start g.pair) begins.tri begins.inv begins.kept);
    cells = cells;
    no = λ x l z. in_by x _ _ there' (no' x l z);
    labels = λ x l. read_w w three (LABEL + x) (omega arith) (inl (omega arith)) ∙ walking.labels x l;
  }
    where
      cells : (c : ℕ) → In c start_path → held_at (begun w) (point_at (begun w) (cell_place TODO c)) ≡ suc c
      cells c (inl e) = rw e (held_0 w three _ (cell_pt w three 0 (omega arith)))
      cells c (inr (inl e)) =
          let q = cell_pt w three 1 (omega arith) in
          rw e (held_1 w three _ (λ z. three_apart.1.0 (inl (sym q ∙ z))) q)
      cells c (inr (inr (inl e))) =
          let q = cell_pt w three 2 (omega arith) in
          rw e (held_2 w three _ (λ z. three_apart.0 (inr (inl (sym q ∙ z)))) (λ z. three_apart.0 (inl (sym q ∙ z))) q)
      cells c (inr (inr (inr e))) = absurd e

      no' : (x : ℕ) → x < length s → ¬ (held_at (begun w) x ≡ 0) → In x (pts start)
      no' x l z = go (ℕ_discrete x (point_at w (cell_place TODO 0))) (ℕ_discrete x (point_at w (cell_place TODO 1))) (ℕ_discrete x (point_at w (cell_place TODO 2)))
        where
          go : Dec (x ≡ point_at w (cell_place TODO 0)) → Dec (x ≡ point_at w (cell_place TODO 1)) → Dec (x ≡ point_at w (cell_place TODO 2)) → In x (pts start)
          go (yes a) b c = rw a in_0
          go (no a) (yes b) c = rw b in_1
          go (no a) (no b) (yes c) = rw c in_2
          go (no a) (no b) (no c) = in_by x _ _ (sym there) (walking.held.no x l (λ q. z (held_3 w three x (small x l) a b c ∙ q)))

  pub between_start : (w' : List ℕ) → w' ≡ begun w → Between s r start w' 0 3
  between_start w' e = rw e (record { path = start_path; waits = 3; state = state_start })
