-- One law for each place in the code of the figures.
-- In order: `mark_cycle`; `list_cycle`; `cusp_widths`; `fixed_points`; `level_of`; `figures_of`.
-- Assumes nothing.
use Rattle.std.specs.Prelude.{Ok, Err}
use mathlib.Core.Path.{◌≡◌, refl, sym, ap, ◌∙◌}
use mathlib.Core.Logic.{◌≢◌, inl, inr}
use mathlib.Core.Bool.{true, false}
use mathlib.Core.List.{List, [], ◌∷◌, ◌++◌, append_assoc, append-nil}
use Prim.Native.Nat.{ℕ, suc, ◌+◌, ◌-◌, ◌≤◌, ◌<◌}
use native.Mathlib.Numerals.{add-one}
use native.Mathlib.Omega.{arith}
use native.Mathlib.Decide.{dec_lt, ℕ_discrete}
use lib.ListN.{length, get_or, set, take, drop, length-set, length-append, length-map, length-drop}
use lib.Seq.{get_or-set_other, drop-cons, get_or-drop, drop-length}
use borrow.Author.Tests.{ltb-true, ltb-false, eq-eqb, ne_eqb}
use Rattle.numbering.specs.Find.{find, ◌∈◌, ◌∉◌, is_in}
use Rattle.numbering.specs.Table.{image_at}
use Rattle.figures.specs.Cusps.{is_fixed, fixed_points, times, width, iterates, cycle, smallest, cusps_to, cusps, widths, cycles}
use Rattle.basics.specs.Count.{those}
use Rattle.call.specs.declared.refusal.Refusal.{Refusal}
use Rattle.call.specs.Refusal.{Filled}
use Rattle.figures.specs.declared.FigureRecord.{FigureRecord}
use Rattle.figures.specs.GenusOf.{genus_of}
use Rattle.figures.specs.FiguresOf.{figures_in}
use Rattle.figures.specs.LevelOf.{lcm, lcm_from, lcm_of, TOO_LARGE, fitting, level_of, Positive}
use Rattle.numbering.specs.Inner.Space.{WORK, ROOM, WIDTHS, NUMBER, ORDER, R_TABLE, T_TABLE, ChangedWithin}
use Rattle.call.specs.Space.{entries}
use Rattle.numbering.specs.Inner.Marks.{listed, Sparse, NowListed, Fresh}
use Rattle.figures.specs.Inner.Scan.{held_t, Permuted, CuspFrame, CyclesListed, NewCycle, CycleDue, CycleTaken, CuspWidths, PositiveTable}
use Rattle.numbering.proofs.Find.{none_below_lem, test, get_d_find, get_d_in, find_right}
use Rattle.numbering.proofs.Table.{map_last}
use Rattle.figures.proofs.Cycle.{times_last, times_low, run_length_lem, run_at, run_more, cycle_length, cycle_at, cycle_once, cycle_self, width_is}
use Rattle.numbering.proofs.Those.{those_yes, those_no, those_few, those_le}
use Rattle.figures.proofs.Cusps.{cycles_last, cycles_length, cusp_new, cusp_old, cusps_are}
use Rattle.figures.proofs.LevelOf.{lcm_some, lcm_from_le, fitting_yes, fitting_no, value_fits, refused_over}
use Rattle.numbering.proofs.Space.{entries_length, entries_at, entries_push, entries_set, within_refl, within_trans, within_entries}
use Rattle.numbering.proofs.Listing.{listed_length, sparse_set}

-- ---- `mark_cycle`: so many steps from x have been listed, and the next point is y
pub record Walk (n x c₀ : ℕ) (w₀ w : List ℕ) (c y : ℕ) : Type 0 where
  pub steps : ℕ
  pub most : steps < width (held_t n w₀) x
  pub point : y ≡ times (held_t n w₀) steps x
  pub sparse : Sparse n c w
  pub frame : ChangedWithin NUMBER R_TABLE w₀ w
  pub list : listed c w ≡ listed c₀ w₀ ++ iterates (held_t n w₀) steps x

T_kept : (n : ℕ) {w w' : List ℕ} → ChangedWithin NUMBER R_TABLE w w' → n ≤ ROOM → WORK ≤ length w → held_t n w' ≡ held_t n w
T_kept n f h long = within_entries f T_TABLE n (inr (omega arith)) (omega arith) (omega arith)

T_long : (n : ℕ) (w : List ℕ) → n ≤ ROOM → WORK ≤ length w → length (held_t n w) ≡ n
T_long n w h long = entries_length T_TABLE n w (omega arith)

module _ {n x c₀ : ℕ} {w₀ : List ℕ} (p : NewCycle n x c₀ w₀) where
  abbrev t : List ℕ
  t = held_t n w₀

  t_long : length t ≡ n
  t_long = T_long n w₀ p.sparse.room p.sparse.long

  x_low : x < length t
  x_low = omega (arith, t_long, p.low)

  pub walk_start : Walk n x c₀ w₀ w₀ c₀ x
  unfolding iterates times
  walk_start = record {
    steps = 0;
    most = (width_is p.permutes x_low).some;
    point = refl;
    sparse = p.sparse;
    frame = within_refl NUMBER R_TABLE w₀;
    list = sym (append-nil (listed c₀ w₀));
  }

  module _ {w : List ℕ} {c y : ℕ} (k : Walk n x c₀ w₀ w c y) where
    walk_low : y < length t
    walk_low = rw k.point (times_low p.permutes k.steps x x_low)

    -- the next point is not among those that have been listed: it is not in the cycle's first steps, nor was it there before
    pub walk_fresh : Fresh n c y w
    walk_fresh =
        let j = k.steps in
        let o = cycle_once p.permutes x_low in
        let len = cycle_length t x in
        let yc = rw (← k.point) at (cycle_at t x j k.most) in
        let far = p.new y (rw yc at (get_d_in (cycle t x) j (omega (arith, k.most)))) in
        let pj = rw yc at (o.place j (omega (arith, k.most))) in
        let apart : j ≤ find (iterates t j x) y = elim (dec_lt (find (iterates t j x) y) j) [
          | yes g ↦
              let i = find (iterates t j x) y in
              let e = cycle_at t x i (omega (arith, k.most)) ∙ sym (run_at t j x i g) ∙ get_d_find (iterates t j x) y (omega (arith, run_length_lem t j x)) in
              let pi = rw e at (o.place i (omega (arith, k.most))) in
              omega arith
          | no g ↦ omega arith
        ] in
        record {
          sparse = k.sparse;
          low = omega (arith, walk_low, t_long);
          new = rw k.list
              (omega (arith, length-append (listed c₀ w₀) (iterates t j x), run_length_lem t j x, find_right (listed c₀ w₀) (iterates t j x) y far));
        }

    module _ {w' : List ℕ} (v : NowListed n w w' (listed c w ++ (y ∷ [])) (c + 1)) {z : ℕ} (ez : z ≡ get_or w' (T_TABLE + y) 0) where
      walk_frame : ChangedWithin NUMBER R_TABLE w₀ w'
      walk_frame = within_trans k.frame v.frame

      walk_point : z ≡ times t (suc k.steps) x
      walk_point =
          ez ∙ walk_frame.above (T_TABLE + y) (omega arith)
          ∙ sym (entries_at T_TABLE n w₀ y (omega (arith, walk_low, t_long))) ∙ ap (image_at t) k.point ∙ sym (times_last t k.steps x)

      walk_list : listed (c + 1) w' ≡ listed c₀ w₀ ++ iterates t (suc k.steps) x
      walk_list = v.list ∙ (rw (k.list, k.point, run_more t k.steps x)
          (append_assoc (listed c₀ w₀) (iterates t k.steps x) (times t k.steps x ∷ [])))

      pub walk_more : z ≢ x → Walk n x c₀ w₀ w' (c + 1) z
      walk_more ne = record {
        steps = suc k.steps;
        most = elim (ℕ_discrete (suc k.steps) (width t x)) [
          | yes e ↦ absurd (ne (walk_point ∙ ap (λ (i : ℕ). times t i x) e ∙ (width_is p.permutes x_low).back))
          | no e ↦ omega (arith, k.most)
        ];
        point = walk_point;
        sparse = v.sparse;
        frame = walk_frame;
        list = walk_list;
      }

      pub walk_end : z ≡ x → NowListed n w₀ w' (listed c₀ w₀ ++ cycle t x) (c + 1)
      walk_end e =
          let s : suc k.steps ≡ width t x = elim (ℕ_discrete (suc k.steps) (width t x)) [
            | yes d ↦ d
            | no d ↦ absurd ((width_is p.permutes x_low).first (suc k.steps) (omega arith) (omega (arith, k.most)) (sym walk_point ∙ e))
          ] in
          record { sparse = v.sparse; frame = walk_frame; list = rw s at walk_list }

-- ---- `list_cycle`
frame_refl : (k : ℕ) (w : List ℕ) → CuspFrame k w w
frame_refl k w = record { same = refl; below = λ i h. refl; between = λ i h g. refl; above = λ i h. refl }

frame_trans : {k m : ℕ} {u v w : List ℕ} → k ≤ m → CuspFrame k u v → CuspFrame m v w → CuspFrame m u w
frame_trans l f g = record {
  same = g.same ∙ f.same;
  below = λ i h. g.below i h ∙ f.below i h;
  between = λ i h e. g.between i h e ∙ f.between i (omega arith) e;
  above = λ i h. g.above i h ∙ f.above i h;
}

module _ {n i c k : ℕ} {w : List ℕ} (p : CycleDue n i c k w) where
  abbrev T : List ℕ
  T = held_t n w

  i_low : i < length T
  i_low = omega (arith, p.low, T_long n w p.scan.sparse.room p.scan.sparse.long)

  -- a point that is listed is not the smallest of its cycle, and one that is not listed is
  turn_old : is_in (listed c w) i ≡ true → smallest T i ≡ false
  turn_old e = elim (test (smallest T i)) [
    | inl q ↦
        let a = cusp_new p.permutes i_low q i (cycle_self p.permutes i_low) in
        let b : i ∈ cycles T (cusps_to T i) = ltb-true _ _ (rw p.scan.list at e) in
        let no : ⊥ = omega arith in absurd no
    | inr q ↦ q
  ]

  turn_new : is_in (listed c w) i ≡ false → smallest T i ≡ true
  turn_new e = elim (test (smallest T i)) [
    | inl q ↦ q
    | inr q ↦
        let a = cusp_old p.permutes i_low q in
        let b : i ∉ cycles T (cusps_to T i) = ltb-false _ _ (rw p.scan.list at e) in
        let no : ⊥ = omega arith in absurd no
  ]

  pub turned_old : is_in (listed c w) i ≡ true → CycleTaken n i w w c k
  turned_old e =
      let q = those_no (smallest T) i (turn_old e) in
      let s = p.scan in
      record {
        scan = record {
          sparse = s.sparse;
          T_is = refl;
          list = rw (add-one, q) s.list;
          count = rw (add-one, q) s.count;
          table = rw (add-one, q) s.table;
        };
        frame = frame_refl k w;
      }

  pub turn_few : k ≤ i
  turn_few = omega (arith, p.scan.count, those_few (smallest T) i)

  pub turn_low : k < ROOM
  turn_low = omega (arith, turn_few, p.low, p.scan.sparse.room)

  module _ (e : is_in (listed c w) i ≡ false) where
    pub turn_cycle : NewCycle n i c w
    turn_cycle = record {
      sparse = p.scan.sparse;
      permutes = p.permutes;
      low = p.low;
      new = rw p.scan.list (cusp_new p.permutes i_low (turn_new e));
    }

    module _ {w1 : List ℕ} {c1 : ℕ} (v : NowListed n w w1 (listed c w ++ cycle T i) c1) where
      -- as many points have come to the list as the cycle has
      turn_sum : c1 ≡ c + width T i
      turn_sum = sym (listed_length v.sparse) ∙ ap (λ (l : List ℕ). length l) v.list ∙ length-append (listed c w) (cycle T i)
          ∙ omega (arith, listed_length p.scan.sparse, cycle_length T i)

      pub turn_width : c1 - c ≡ width T i
      turn_width = omega (arith, turn_sum)

      pub turn_more : c ≤ c1
      turn_more = omega (arith, turn_sum)

      pub turned_new : CycleTaken n i w (set w1 (WIDTHS + k) (c1 - c)) c1 (k + 1)
      turned_new =
          let s = p.scan in
          let low = turn_low in
          let long1 = v.sparse.long in
          let room = s.sparse.room in
          let q = those_yes (smallest T) i (turn_new e) in
          let w2 = set w1 (WIDTHS + k) (c1 - c) in
          let T1 : held_t n w1 ≡ T = T_kept n v.frame room s.sparse.long in
          let few1 = v.sparse.few in
          record {
            scan = record {
              sparse = sparse_set (WIDTHS + k) (c1 - c) v.sparse (omega arith);
              T_is = entries_set T_TABLE n w1 (WIDTHS + k) (c1 - c) (omega arith) (inr (omega arith)) ∙ T1;
              list = entries_set ORDER c1 w1 (WIDTHS + k) (c1 - c) (omega arith) (inr (omega arith)) ∙ v.list
                  ∙ ap (λ (l : List ℕ). l ++ cycle T i) s.list ∙ sym (cycles_last T (cusps_to T i) i) ∙ (rw (add-one, q));
              count = rw (add-one i, q) (omega (arith, s.count, length-append (cusps_to T i) (i ∷ [])));
              table = entries_push WIDTHS k w1 (c1 - c) (omega arith)
                  ∙ (rw (
                    within_entries v.frame WIDTHS k (inl (omega arith)) (omega arith)
                        (omega (arith, s.sparse.long)),
                    s.table,
                    turn_width,
                    add-one i,
                    q,
                  ) (sym (map_last (width T) (cusps_to T i) i)));
            };
            frame = record {
              same = length-set w1 (WIDTHS + k) (c1 - c) ∙ v.frame.same;
              below = λ j h. get_or-set_other w1 (WIDTHS + k) j (c1 - c) 0 (λ e. omega arith) ∙ v.frame.below j (omega arith);
              between = λ j h g. get_or-set_other w1 (WIDTHS + k) j (c1 - c) 0 (λ e. omega arith) ∙ v.frame.below j g;
              above = λ j h. get_or-set_other w1 (WIDTHS + k) j (c1 - c) 0 (λ e. omega arith) ∙ v.frame.above j h;
            };
          }

-- ---- `cusp_widths`
pub record Scanning (n : ℕ) (w₀ w : List ℕ) (c k i : ℕ) : Type 0 where
  pub scan : CyclesListed (held_t n w₀) n i c k w
  pub frame : CuspFrame k w₀ w
  pub permuted : Permuted n w₀
  pub done : i ≤ n

pub scanning_start : {n : ℕ} {w : List ℕ} → Permuted n w → Scanning n w w 0 0 0
unfolding cycles
scanning_start {n} {w} p = record {
  scan = record {
    sparse = record { long = p.long; room = p.room; few = omega arith; low = λ j h. none_below_lem h; number = λ j h. none_below_lem h };
    T_is = refl;
    list = refl;
    count = refl;
    table = refl;
  };
  frame = frame_refl 0 w;
  permuted = p;
  done = omega arith;
}

module _ {n c k i : ℕ} {w₀ w : List ℕ} (s : Scanning n w₀ w c k i) where
  pub scanning_turn : i < n → CycleDue n i c k w
  scanning_turn h = record { scan = rw s.scan.T_is s.scan; permutes = rw s.scan.T_is s.permuted.permutes; low = h }

  pub scanning_more : i < n → {w' : List ℕ} {c' k' : ℕ} → CycleTaken n i w w' c' k' → Scanning n w₀ w' c' k' (i + 1)
  scanning_more h {w'} {c'} {k'} v =
      let q = rw s.scan.T_is at v.scan in
      record {
        scan = q;
        frame = frame_trans (grows q.count) s.frame v.frame;
        permuted = s.permuted;
        done = omega arith;
      }
    where
      grows : k' ≡ length (cusps_to (held_t n w₀) (i + 1)) → k ≤ k'
      grows e = omega (arith, s.scan.count, e, those_le (smallest (held_t n w₀)) i 1)

  pub scanning_end : n ≤ i → CuspWidths n w₀ w k
  scanning_end h =
      let t = held_t n w₀ in
      let e : i ≡ length t = omega (arith, s.done, T_long n w₀ s.permuted.room s.permuted.long) in
      let a = rw e at s.scan.count in
      let l = rw e at s.scan.list in
      -- the widths add up to the number of points, so all are listed
      let all : c ≡ n = omega (
        arith,
        listed_length s.scan.sparse,
        ap length l,
        cycles_length t (cusps t),
        (cusps_are s.permuted.permutes).total,
        T_long n w₀ s.permuted.room s.permuted.long,
      ) in
      record {
        count = a ∙ sym (length-map (cusps t) (width t));
        few = omega (arith, s.scan.count, those_few (smallest t) i, s.done);
        table = rw e at s.scan.table;
        marks = rw all at s.scan.sparse;
        list = rw all at l;
        frame = s.frame;
      }

-- ---- parts of the work space, and `fixed_points`

-- an entry of the part of w from off to off + n is an entry of the table of n entries at off
pub record PartEntry (off n : ℕ) (w : List ℕ) (i x : ℕ) : Type 0 where
  pub low : i < n
  pub is : x ≡ get_or (entries off n w) i 0

pub part_entry : {off n : ℕ} {w : List ℕ} {i x : ℕ} → off + n ≤ length w → i < length (take (off + n - off) (drop off w))
    → x ≡ get_or (take (off + n - off) (drop off w)) i 0 → PartEntry off n w i x
part_entry {off} {n} {w} {i} {x} fits low is =
    let k : off + n - off ≡ n = omega arith in
    let below = rw k at low in
    record { low = omega (arith, below, entries_length off n w fits); is = rw k at is }

module _ (t : List ℕ) (i : ℕ) where
  pub fixed_yes : image_at t i ≡ i → length (those (is_fixed t) (i + 1)) ≡ length (those (is_fixed t) i) + 1
  fixed_yes e = rw (add-one i, those_yes (is_fixed t) i (eq-eqb (image_at t i) i e)) (length-append (those (is_fixed t) i) (i ∷ []))

  pub fixed_no : (image_at t i ≡ i → ⊥) → length (those (is_fixed t) (i + 1)) ≡ length (those (is_fixed t) i)
  fixed_no e = rw (add-one i, those_no (is_fixed t) i (ne_eqb (image_at t i) i e))

pub fixed_few : (off n : ℕ) (w : List ℕ) → off + n ≤ length w → fixed_points (entries off n w) ≤ n
fixed_few off n w h = omega (arith, those_few (is_fixed (entries off n w)) (length (entries off n w)), entries_length off n w h)

-- ---- `level_of`: what is left of the list gives, from m on, the least common multiple of the whole
pub record Levelling (l : List ℕ) (m i : ℕ) : Type 0 where
  pub some : 0 < m
  pub fits : m < TOO_LARGE
  pub left : lcm_from m (drop i l) ≡ lcm_of l

module _ {off n : ℕ} {w : List ℕ} (p : PositiveTable off n w) {m i : ℕ} (s : Levelling (entries off n w) m i) where
  abbrev table : List ℕ
  table = entries off n w

  table_long : length table ≡ n
  table_long = entries_length off n w p.fits

  pub level_end : i ≡ n → Ok m ≡ level_of table
  unfolding lcm_from
  level_end e =
      let d : m ≡ lcm_of table = rw (e ∙ sym table_long, drop-length table) at s.left in
      rw (← d) (fitting_yes m s.fits)

  module _ (h : i < n) {x : ℕ} (level_entry : x ≡ get_or table i 0) where
    pub level_positive : 0 < x
    level_positive = rw level_entry (p.positive.each i (omega (arith, table_long)))

    level_left : lcm_from (lcm m x) (drop (i + 1) table) ≡ lcm_of table
    unfolding lcm_from
    level_left = rw (level_entry, add-one) (rw (drop-cons table i 0 (omega (arith, table_long))) at s.left)

    rest_positive : Positive (drop (i + 1) table)
    rest_positive = record {
      each = λ j g. rw (get_or-drop (i + 1) table j 0) (p.positive.each (i + 1 + j) (omega (arith, length-drop (i + 1) table)));
    }

    -- over 2^64 once is over it for good
    pub level_over : {r : Filled} (f : Refusal) → r ≡ Err f → r ≡ fitting (lcm m x) → r ≡ level_of table
    level_over f q e =
        let a = lcm_from_le (lcm m x) (drop (i + 1) table) (lcm_some m x s.some level_positive) rest_positive in
        let h = refused_over (lcm m x) f (sym q ∙ e) in
        e ∙ sym (fitting_no (lcm m x) h) ∙ fitting_no (lcm_of table) (omega (arith, h, a, level_left))

    pub level_more : (k : ℕ) → Ok k ≡ fitting (lcm m x) → Levelling table k (i + 1)
    level_more k e =
        let f = value_fits (lcm m x) k e in
        record { some = rw f.0 (lcm_some m x s.some level_positive); fits = f.1; left = rw f.0 level_left }

-- ---- `figures_of`
pub all_figures : (n : ℕ) (s r u : List ℕ) {e2 e3 k : ℕ} {g l : Filled} → e2 ≡ fixed_points s → e3 ≡ fixed_points r → k ≡ length (widths u)
    → g ≡ genus_of n e2 e3 k → l ≡ level_of (widths u)
    → ◌≡◌ {A = FigureRecord} (record { index = n; e2 = e2; e3 = e3; cusps = k; genus = g; level = l }) (figures_in n s r u)
all_figures n s r u a b c d e = cc
