-- The laws of the loop that enters cusps and steps, one for each place in the code.
-- Why: in the list of points one cusp follows on another, and within a cusp each place is one step of T behind the place before.
-- In order: what the list has at a place (`cusp_here`, `steps_here`); a cusp from place to place (`at_first`, `at_more`, `at_next`); stores beside the lists
-- (`lists_set`); one point more (`entered_more`); the end (`filled`); what the scan of the cusps leaves (`scanned`).
-- Assumes nothing.
use mathlib.Core.Path.{◌≡◌, refl, sym, ap, ◌∙◌}
use mathlib.Core.Logic.{◌⊎◌, inl, inr}
use mathlib.Core.List.{List}
use Prim.Native.Nat.{ℕ, suc, ◌+◌, ◌-◌, ◌≤◌, ◌<◌}
use native.Mathlib.Omega.{arith}
use native.Mathlib.Decide.{dec_lt, ℕ_discrete}
use lib.ListN.{length, get_or, set, length-set, length-map}
use lib.Seq.{get_or-set_other, get_or-set_same}
use Rattle.numbering.specs.Inner.Space.{ROOM, S_TABLE, WIDTHS, NUMBER, ORDER, T_TABLE}
use Rattle.numbering.specs.Table.{Permutes}
use Rattle.numbering.proofs.Find.{none_below_lem, once_inj}
use Rattle.numbering.proofs.Space.{entries_set, entries_length, entries_at, entries_ext}
use Rattle.figures.specs.Cusps.{times, width, cusps, widths, sum}
use Rattle.figures.specs.Inner.Scan.{held_t, Permuted, CuspWidths}
use Rattle.figures.proofs.Cusps.{cusps_are}
use Rattle.cusp_record.specs.Record.{cusp_point, cusp_width, cusp_of, cusp_steps, cusp_table, step_table, cusp_order, cusp_place, cusp_first}
use Rattle.cusp_record.specs.Inner.Fill.{CUSPS, STEPS, cusp_entry, ByCusps, RecordFrame, AtCusp, OnCusp, CuspsEntered, RecordFilled}
use Rattle.cusp_record.specs.declared.Cusp.{Cusp}
use Rattle.cusp_record.proofs.Cycles.{parts, rest_next, rest_none}
use Rattle.cusp_record.proofs.Record.{width_some, k_low, cusp_there, steps_there, point_there, cusp_at_lem, steps_at, cusps_size, steps_size, in_order_is}

-- ---- what the list has at a place
module _ {u : List ℕ} (p : Permutes u) where
  module _ {c : Cusp} {y : ℕ} (g : OnCusp u c y) where
    abbrev j : ℕ
    j = y - c.first

    short : j < cusp_width u c.number
    short = omega (arith, g.within, g.at.width_is, g.at.from)

    here : cusp_entry u y ≡ times u j (cusp_point u c.number)
    here =
        let e : y ≡ cusp_first u c.number + j = omega (arith, g.at.from, g.at.first_is) in
        ap (cusp_entry u) e ∙ point_there p c.number g.at.low j short

    pub cusp_here : cusp_of u (cusp_entry u y) ≡ c.number
    cusp_here = ap (cusp_of u) here ∙ cusp_there p c.number g.at.low j

    pub steps_here : cusp_steps u (cusp_entry u y) ≡ j
    steps_here = ap (cusp_steps u) here ∙ steps_there p c.number g.at.low j short

    pub at_more : AtCusp u c (y + 1)
    at_more = record {
      low = g.at.low;
      first_is = g.at.first_is;
      width_is = g.at.width_is;
      from = omega (arith, g.at.from);
      to = omega (arith, g.within);
    }

  -- ---- from place to place
  module _ {c : Cusp} {y : ℕ} (g : AtCusp u c y) (l : y < length u) (h : c.first + c.width ≤ y) where
    first_next : cusp_first u (suc c.number) ≡ y
    first_next =
        let k = c.number in
        omega (arith, parts (widths u) k, parts (widths u) (suc k), rest_next (widths u) k, g.first_is, g.width_is, g.to)

    pub next_low : c.number + 1 < length (cusps u)
    next_low = elim (dec_lt (suc c.number) (length (cusps u))) [
      | yes i ↦ omega arith
      | no i ↦
          let no : ⊥ = omega (
            arith,
            first_next,
            parts (widths u) (suc c.number),
            rest_none (widths u) (suc c.number) (omega (arith, length-map (cusps u) (width u))),
            (cusps_are p).total,
          ) in
          absurd no
    ]

    pub at_next : {d : Cusp} → d.number ≡ c.number + 1 → d.first ≡ y → d.width ≡ cusp_width u (c.number + 1) → OnCusp u d y
    at_next {d} a b e =
        let s : suc c.number ≡ c.number + 1 = omega arith in
        record {
          at = record {
            low = omega (arith, a, next_low);
            first_is = b ∙ sym first_next ∙ ap (cusp_first u) (s ∙ sym a);
            width_is = e ∙ ap (cusp_width u) (sym a);
            from = omega arith;
            to = omega arith;
          };
          within = omega (arith, b, e, width_some p (c.number + 1) next_low);
        }

  pub at_fits : {c : Cusp} {y : ℕ} → AtCusp u c y → c.first + c.width ≤ length u
  at_fits {c} g = omega (arith, g.first_is, g.width_is, (in_order_is p).fits c.number g.low)

  pub some_cusp : 0 < length u → 0 < length (cusps u)
  some_cusp h = omega (arith, k_low p 0 h)

  pub at_first : {c : Cusp} → 0 < length u → c.number ≡ 0 → c.first ≡ 0 → c.width ≡ cusp_width u 0 → AtCusp u c 0
  unfolding sum
  at_first {c} h a b e = record {
    low = omega (arith, some_cusp h);
    first_is = b ∙ ap (cusp_first u) (sym a);
    width_is = e ∙ ap (cusp_width u) (sym a);
    from = omega arith;
    to = omega arith;
  }

-- ---- `advance`
module _ {u : List ℕ} {n k : ℕ} {w : List ℕ} (g : ByCusps u n k w) {c : Cusp} {y : ℕ} (a : AtCusp u c y) (h : y < n) where
  pub cusp_fits : c.first + c.width ≤ ROOM
  cusp_fits = omega (arith, at_fits g.permutes a, g.size, g.room)

  pub advanced : y ≡ c.first + c.width → {d : Cusp} → d.number ≡ c.number + 1 → d.first ≡ c.first + c.width
      → d.width ≡ get_or w (WIDTHS + (c.number + 1)) 0 → OnCusp u d y
  advanced end e f i =
      let l : y < length u = omega (arith, g.size) in
      let past : c.first + c.width ≤ y = omega arith in
      at_next g.permutes a l past e (f ∙ sym end) (i ∙ g.width_is (c.number + 1) (omega (arith, g.count, next_low g.permutes a l past)))

-- ---- stores beside the lists
abbrev Beside : ℕ → Type 0
Beside i = ((CUSPS ≤ i) × (i < NUMBER)) ⊎ (i < S_TABLE)

lists_set : {u : List ℕ} {n k : ℕ} {w : List ℕ} (i x : ℕ) → ByCusps u n k w → Beside i → ByCusps u n k (set w i x)
lists_set {u} {n} {k} {w} i x g at =
    let room = g.room in
    let few = g.few in
    record {
      long = omega (arith, g.long, length-set w i x);
      some = g.some;
      room = room;
      size = g.size;
      permutes = g.permutes;
      order_is = λ y h. get_or-set_other w i (ORDER + y) x 0 (λ e. elim at [ inl b ↦ omega arith | inr b ↦ omega arith ]) ∙ g.order_is y h;
      number_is = λ y h. get_or-set_other w i (NUMBER + y) x 0 (λ e. elim at [ inl b ↦ omega arith | inr b ↦ omega arith ]) ∙ g.number_is y h;
      count = g.count;
      few = few;
      width_is = λ j h. get_or-set_other w i (WIDTHS + j) x 0 (λ e. elim at [ inl b ↦ omega arith | inr b ↦ omega arith ]) ∙ g.width_is j h;
    }

frame_set : {w w' : List ℕ} (i x : ℕ) → RecordFrame w w' → Beside i → RecordFrame w (set w' i x)
frame_set {w} {w'} i x f at = record {
  same = length-set w' i x ∙ f.same;
  between = λ j h g. get_or-set_other w' i j x 0 (λ e. elim at [ inl b ↦ omega arith | inr b ↦ omega arith ]) ∙ f.between j h g;
  above = λ j h. get_or-set_other w' i j x 0 (λ e. elim at [ inl b ↦ omega arith | inr b ↦ omega arith ]) ∙ f.above j h;
}

-- ---- the loop: the points before the place y have their cusps and steps
pub record Filling (u : List ℕ) (n k : ℕ) (w₀ w : List ℕ) (c : Cusp) (y : ℕ) : Type 0 where
  pub lists : ByCusps u n k w
  pub frame : RecordFrame w₀ w
  pub T_is : held_t n w ≡ u
  pub entered : CuspsEntered u y w
  pub at : AtCusp u c y
  pub done : y ≤ n

pub filling_start : {n k : ℕ} {w : List ℕ} {c : Cusp} → ByCusps (held_t n w) n k w → c.number ≡ 0 → c.first ≡ 0 → c.width ≡ get_or w WIDTHS 0
    → Filling (held_t n w) n k w w c 0
filling_start {n} {k} {w} g a b e =
    let some : 0 < length (held_t n w) = omega (arith, g.size, g.some) in
    record {
      lists = g;
      frame = record { same = refl; between = λ i h l. refl; above = λ i h. refl };
      T_is = refl;
      entered = record { cusps_are = λ j h. none_below_lem h; steps_are = λ j h. none_below_lem h };
      at = at_first g.permutes some a b (e ∙ g.width_is 0 (omega (arith, g.count, some_cusp g.permutes some)));
      done = omega arith;
    }

module _ {u : List ℕ} {n k : ℕ} {w₀ w : List ℕ} {c : Cusp} {y : ℕ} (g : Filling u n k w₀ w c y) where
  pub filling_lists : ByCusps (held_t n w) n k w
  filling_lists = rw g.T_is g.lists

  pub filling_at : AtCusp (held_t n w) c y
  filling_at = rw g.T_is g.at

  module _ (h : y < n) {d : Cusp} (o : OnCusp (held_t n w) d y) {x : ℕ} (ex : x ≡ get_or w (ORDER + y) 0) where
    p : Permutes u
    p = g.lists.permutes

    y_low : y < length u
    y_low = omega (arith, g.lists.size)

    on : OnCusp u d y
    on = rw g.T_is at o

    x_is : x ≡ cusp_entry u y
    x_is = ex ∙ g.lists.order_is y h

    pub x_low : x < n
    x_low = omega (arith, x_is, (in_order_is p).point_low y y_low, g.lists.size)

    pub number_low : d.number < ROOM
    number_low = omega (arith, on.at.low, g.lists.count, g.lists.few, g.lists.room)

    pub first_low : d.first ≤ y
    first_low = on.at.from

    pub entered_more : Filling u n k w₀ (set (set w (CUSPS + x) d.number) (STEPS + x) (y - d.first)) d (y + 1)
    entered_more =
        let room = g.lists.room in
        let long = g.lists.long in
        let low = x_low in
        let w1 = set w (CUSPS + x) d.number in
        let l1 = length-set w (CUSPS + x) d.number in
        let s = y - d.first in
        let here : Beside (CUSPS + x) = inl (omega arith, omega arith) in
        let there : Beside (STEPS + x) = inr (omega arith) in
        let apart : (i : ℕ) → i < y → (cusp_entry u i ≡ x → ⊥) = λ i l e.
        let z = once_inj (cusp_order u) (in_order_is p).once i y (omega (arith, (in_order_is p).size, y_low)) (omega (arith, (in_order_is p).size, y_low)) (e ∙ x_is) in
        omega arith in
        let inside : (i : ℕ) → i < y → cusp_entry u i < n = λ i l. omega (arith, (in_order_is p).point_low i (omega (arith, y_low)), g.lists.size) in
        record {
          lists = lists_set (STEPS + x) s (lists_set (CUSPS + x) d.number g.lists here) there;
          frame = frame_set (STEPS + x) s (frame_set (CUSPS + x) d.number g.frame here) there;
          T_is = entries_set T_TABLE n w1 (STEPS + x) s (omega arith) (inr (omega arith))
              ∙ entries_set T_TABLE n w (CUSPS + x) d.number (omega arith) (inr (omega arith)) ∙ g.T_is;
          entered = record {
            cusps_are = λ i l. elim (ℕ_discrete i y) [
              | yes e ↦ rw (e, ← x_is)
                  (get_or-set_other w1 (STEPS + x) (CUSPS + x) s 0 (λ q. omega arith)
                  ∙ get_or-set_same w (CUSPS + x) d.number 0 (omega arith) ∙ sym (cusp_here p on) ∙ ap (cusp_of u) (sym x_is))
              | no e ↦
                  let a = apart i (omega arith) in
                  let b = inside i (omega arith) in
                  get_or-set_other w1 (STEPS + x) (CUSPS + cusp_entry u i) s 0 (λ q. omega arith)
                  ∙ get_or-set_other w (CUSPS + x) (CUSPS + cusp_entry u i) d.number 0 (λ q. a (omega arith)) ∙ g.entered.cusps_are i (omega arith)
            ];
            steps_are = λ i l. elim (ℕ_discrete i y) [
              | yes e ↦ rw (e, ← x_is) (get_or-set_same w1 (STEPS + x) s 0 (omega arith) ∙ sym (steps_here p on) ∙ ap (cusp_steps u) (sym x_is))
              | no e ↦
                  let a = apart i (omega arith) in
                  let b = inside i (omega arith) in
                  get_or-set_other w1 (STEPS + x) (STEPS + cusp_entry u i) s 0 (λ q. a (omega arith))
                  ∙ get_or-set_other w (CUSPS + x) (STEPS + cusp_entry u i) d.number 0 (λ q. omega arith) ∙ g.entered.steps_are i (omega arith)
            ];
          };
          at = at_more p on;
          done = omega arith;
        }

  -- each point stands at its place
  pub filled : n ≤ y → RecordFilled u n k w₀ w
  filled h =
      let p = g.lists.permutes in
      let size = g.lists.size in
      let o = in_order_is p in
      let place : (x : ℕ) → x < n → cusp_place u x < y = λ x l. omega (arith, o.place_low x (omega arith)) in
      let point : (x : ℕ) → x < n → cusp_entry u (cusp_place u x) ≡ x = λ x l. o.at_place x (omega arith) in
      record {
        lists = g.lists;
        cusps_are = entries_ext CUSPS n w (cusp_table u) (omega (arith, g.lists.long, g.lists.room)) (cusps_size p ∙ size)
            (λ x l. rw (point x l) at (g.entered.cusps_are (cusp_place u x) (place x l)) ∙ sym (cusp_at_lem p x (omega arith)));
        steps_are = entries_ext STEPS n w (step_table u) (omega (arith, g.lists.long, g.lists.room)) (steps_size p ∙ size)
            (λ x l. rw (point x l) at (g.entered.steps_are (cusp_place u x) (place x l)) ∙ sym (steps_at p x (omega arith)));
        frame = g.frame;
      }

-- ---- what the scan of the cusps leaves
module _ {n k : ℕ} {w w' : List ℕ} (p : Permuted n w) (c : CuspWidths n w w' k) (T_is : held_t n w' ≡ held_t n w) where
  abbrev u : List ℕ
  u = held_t n w

  size_u : length u ≡ n
  size_u = entries_length T_TABLE n w (omega (arith, p.long, p.room))

  order_at : (y : ℕ) → y < n → get_or w' (ORDER + y) 0 ≡ cusp_entry u y
  order_at y h = sym (entries_at ORDER n w' y h) ∙ ap (λ (l : List ℕ). get_or l y 0) c.list

  number_at : (x : ℕ) → x < n → get_or w' (NUMBER + x) 0 ≡ cusp_place u x
  number_at x h =
      let o = in_order_is p.permutes in
      let xl : x < length u = omega (arith, size_u) in
      let j = cusp_place u x in
      let jl : j < n = omega (arith, size_u, o.place_low x xl) in
      ap (λ (i : ℕ). get_or w' (NUMBER + i) 0) (sym (order_at j jl ∙ o.at_place x xl)) ∙ c.marks.number j jl

  pub scanned : 0 < n → ByCusps (held_t n w') n k w'
  scanned some = rw T_is (record {
    long = omega (arith, p.long, c.frame.same);
    some = some;
    room = p.room;
    size = size_u;
    permutes = p.permutes;
    order_is = order_at;
    number_is = number_at;
    count = c.count ∙ length-map (cusps u) (width u);
    few = c.few;
    width_is = λ j h. sym (entries_at WIDTHS k w' j h) ∙ ap (λ (l : List ℕ). get_or l j 0) c.table;
  })
