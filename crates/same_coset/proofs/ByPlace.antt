-- The loops that make the tables by place, and what they leave. In order: S by place (`turning-…`); the cusp of a place (`cusp_there`), ends and widths
-- (`ending-…`); from the coset record of a symbol to its tables by place (`turn_source`, `end_source`, `symbol_places`); the coset tables guide (`guided`).
-- Assumes nothing.
use mathlib.Core.Path.{◌≡◌, refl, sym, ap, ◌∙◌}
use mathlib.Core.Logic.{◌≢◌, ◌⊎◌, inl, inr}
use mathlib.Core.List.{List}
use Prim.Native.Nat.{ℕ, ◌+◌, ◌-◌, ◌≤◌, ◌<◌}
use native.Mathlib.Omega.{arith}
use native.Mathlib.Decide.{ℕ_discrete}
use lib.ListN.{length, get_or, set, length-set}
use lib.Seq.{get_or-set_other, get_or-set_same}
use lib.IntN.{ℤ, pos}
use Rattle.matrix.specs.Matrix.{Mat, det, ◌≈◌}
use Rattle.matrix.specs.Action as action
use Rattle.matrix.proofs.Uniqueness.{word_of-≈}
use Rattle.numbering.specs.Table.{image_at}
use Rattle.numbering.specs.Inner.Space.{ROOM, S_TABLE, WIDTHS, NUMBER, ORDER, T_TABLE, ChangedWithin}
use Rattle.numbering.proofs.Find.{none_below_lem}
use Rattle.numbering.proofs.Space.{entries_at, entries_same, entries_set, within_refl, within_set}
use Rattle.symbol.specs.Symbol.{IsSymbol}
use Rattle.figures.specs.Cusps.{cusps}
use Rattle.figures.specs.Inner.Scan.{held_t}
use Rattle.coset.specs.Tables.{table_s, table_r, table_t}
use Rattle.right_cosets.specs.Leads.{by_table_q, leads}
use Rattle.right_cosets.proofs.Tabled as tabled
use Rattle.right_cosets.proofs.Tabled.{one_home}
use Rattle.coset.proofs.Answer.{meaning, symbol_cosets}
use Rattle.cusp_record.specs.Record.{cusp_width, cusp_of, cusp_steps, cusp_place, cusp_first}
use Rattle.cusp_record.specs.declared.Cusp.{Cusp}
use Rattle.cusp_record.specs.Inner.Fill.{CUSPS, STEPS, cusp_entry, OnCusp, SymbolRecord}
use Rattle.cusp_record.proofs.Record.{k_low, steps_low, in_order_is, cusp_at_lem, steps_at}
use Rattle.cusp_record.proofs.Fill.{at_fits}
use Rattle.same_coset.specs.Runs.{Guided}
use Rattle.same_coset.specs.Inner.Places.{TURN, END, WIDTH, held_turns, held_s, cusp_at, TurnSource, EndSource, TurnsAt, EndsTo, EndsFrame, SymbolPlaces}

-- ---- S by place

pub record Turning (s u : List ℕ) (n : ℕ) (w₀ w : List ℕ) (y : ℕ) : Type 0 where
  pub source : TurnSource s u n w
  pub frame : ChangedWithin TURN T_TABLE w₀ w
  pub turns : TurnsAt s u y w
  pub done : y ≤ n

pub turning_start : {s u : List ℕ} {n : ℕ} {w : List ℕ} → TurnSource s u n w → Turning s u n w w 0
turning_start {s} {u} {n} {w} g =
    record { source = g; frame = within_refl TURN T_TABLE w; turns = record { turn_is = λ j h. none_below_lem h }; done = omega arith }

module _ {s u : List ℕ} {n : ℕ} {w : List ℕ} (g : TurnSource s u n w) {y : ℕ} (h : y < n) {x : ℕ} (ex : x ≡ get_or w (ORDER + y) 0) where
  x_is : x ≡ cusp_entry u y
  x_is = ex ∙ g.order_is y h

  pub point_low : x < n
  point_low = omega (arith, x_is, (in_order_is g.permutes).point_low y (omega (arith, g.size)), g.size)

  module _ {z : ℕ} (ez : z ≡ get_or w (S_TABLE + x) 0) where
    z_is : z ≡ image_at s x
    z_is = ez ∙ g.S_is x point_low

    pub image_low : z < n
    image_low = omega (arith, z_is, g.S_low x point_low)

    pub turn_here : get_or w (NUMBER + z) 0 ≡ cusp_place u (image_at s (cusp_entry u y))
    turn_here = g.number_is z image_low ∙ ap (cusp_place u) (z_is ∙ ap (image_at s) x_is)

pub turning_more : {s u : List ℕ} {n : ℕ} {w₀ w : List ℕ} {y : ℕ} → Turning s u n w₀ w y → (h : y < n) → {v : ℕ} → v ≡ cusp_place u (image_at s (cusp_entry u y))
    → Turning s u n w₀ (set w (TURN + y) v) (y + 1)
turning_more {s} {u} {n} {w₀} {w} {y} g h {v} e =
    let c = g.source in
    let room = c.room in
    let long = c.long in
    let apart : (i : ℕ) → (i < TURN) ⊎ (T_TABLE ≤ i) → get_or (set w (TURN + y) v) i 0 ≡ get_or w i 0 =
    λ i k. get_or-set_other w (TURN + y) i v 0 (λ d. elim k [ inl a ↦ omega arith | inr a ↦ omega arith ]) in
    record {
      source = record {
        long = omega (arith, length-set w (TURN + y) v);
        room = room;
        size = c.size;
        permutes = c.permutes;
        S_low = c.S_low;
        S_is = λ x k. apart (S_TABLE + x) (inl (omega arith)) ∙ c.S_is x k;
        order_is = λ j k. apart (ORDER + j) (inl (omega arith)) ∙ c.order_is j k;
        number_is = λ x k. apart (NUMBER + x) (inl (omega arith)) ∙ c.number_is x k;
      };
      frame = within_set (TURN + y) v g.frame (omega arith) (omega arith);
      turns = record {
        turn_is = λ j k. elim (ℕ_discrete j y) [
          | yes d ↦ rw d (get_or-set_same w (TURN + y) v 0 (omega arith) ∙ e)
          | no d ↦ get_or-set_other w (TURN + y) (TURN + j) v 0 (λ f. d (omega arith)) ∙ g.turns.turn_is j (omega arith)
        ];
      };
      done = omega arith;
    }

pub turning_end : {s u : List ℕ} {n : ℕ} {w₀ w : List ℕ} {y : ℕ} → Turning s u n w₀ w y → n ≤ y → TurnsAt s u n w × ChangedWithin TURN T_TABLE w₀ w
turning_end {n = n} {y = y} g h = let e : y ≡ n = omega (arith, g.done) in (rw e at g.turns, g.frame)

-- ---- the cusp of a place

module _ {u : List ℕ} {n : ℕ} {w : List ℕ} (g : EndSource u n w) {y : ℕ} (h : y < n) {x : ℕ} (ex : x ≡ get_or w (ORDER + y) 0) where
  abbrev k : ℕ
  k = cusp_of u x

  entry_is : x ≡ cusp_entry u y
  entry_is = ex ∙ g.order_is y h

  pub entry_low : x < n
  entry_low = omega (arith, entry_is, (in_order_is g.permutes).point_low y (omega (arith, g.size)), g.size)

  xl : x < length u
  xl = omega (arith, entry_low, g.size)

  kl : k < length (cusps u)
  kl = k_low g.permutes x xl

  place_is : y ≡ cusp_first u k + cusp_steps u x
  place_is =
      let o = in_order_is g.permutes in
      sym (o.of_point y (omega (arith, g.size))) ∙ ap (cusp_place u) (sym entry_is) ∙ o.place_is x xl

  module _ {number steps : ℕ} (en : number ≡ get_or w (CUSPS + x) 0) (es : steps ≡ get_or w (STEPS + x) 0) where
    number_is : number ≡ k
    number_is = en ∙ g.cusp_is x entry_low

    steps_is : steps ≡ cusp_steps u x
    steps_is = es ∙ g.steps_are x entry_low

    pub steps_fit : steps ≤ y
    steps_fit = omega (arith, steps_is, place_is)

    pub number_low : number < ROOM
    number_low = omega (arith, number_is, kl, g.few, g.room)

    pub cusp_there : {c : Cusp} → c.number ≡ number → c.first ≡ y - steps → c.width ≡ get_or w (WIDTHS + number) 0
        → (c.number ≡ cusp_at u y) × OnCusp u c y
    cusp_there {c} a b e =
        let kn : c.number ≡ k = a ∙ number_is in
        let first : c.first ≡ cusp_first u k = omega (arith, b, steps_is, place_is) in
        let width : c.width ≡ cusp_width u k = e ∙ ap (λ (i : ℕ). get_or w (WIDTHS + i) 0) number_is ∙ g.width_is k kl in
        let low = steps_low g.permutes x xl in (
          kn ∙ ap (cusp_of u) entry_is,
          record {
            at = record {
              low = omega (arith, kn, kl);
              first_is = first ∙ ap (cusp_first u) (sym kn);
              width_is = width ∙ ap (cusp_width u) (sym kn);
              from = omega (arith, first, place_is);
              to = omega (arith, first, width, place_is, low);
            };
            within = omega (arith, first, width, place_is, low);
          },
        )

-- ---- ends and widths

-- a place beside all that they are made from
abbrev Beside : ℕ → Type 0
Beside i = ((END ≤ i) × (i < WIDTHS)) ⊎ ((WIDTH ≤ i) × (i < ORDER))

source_set : {u : List ℕ} {n : ℕ} {w : List ℕ} (i x : ℕ) → EndSource u n w → Beside i → EndSource u n (set w i x)
source_set {u} {n} {w} i x g at =
    let room = g.room in
    let few = g.few in
    let other : (j : ℕ) → (j ≢ i) → get_or (set w i x) j 0 ≡ get_or w j 0 = λ j ne. get_or-set_other w i j x 0 ne in
    record {
      long = omega (arith, g.long, length-set w i x);
      room = room;
      size = g.size;
      permutes = g.permutes;
      few = few;
      order_is = λ y h. other (ORDER + y) (λ e. elim at [ inl k ↦ omega arith | inr k ↦ omega arith ]) ∙ g.order_is y h;
      cusp_is = λ y h. other (CUSPS + y) (λ e. elim at [ inl k ↦ omega arith | inr k ↦ omega arith ]) ∙ g.cusp_is y h;
      steps_are = λ y h. other (STEPS + y) (λ e. elim at [ inl k ↦ omega arith | inr k ↦ omega arith ]) ∙ g.steps_are y h;
      width_is = λ y h. other (WIDTHS + y) (λ e. elim at [ inl k ↦ omega arith | inr k ↦ omega arith ]) ∙ g.width_is y h;
      T_is = entries_set T_TABLE n w i x (omega (arith, g.long)) (inr (elim at [ inl k ↦ omega arith | inr k ↦ omega arith ])) ∙ g.T_is;
    }

frame_set : {w₀ w : List ℕ} (i x : ℕ) → EndsFrame w₀ w → i < ORDER → EndsFrame w₀ (set w i x)
frame_set {w₀} {w} i x g h = record {
  same = length-set w i x ∙ g.same;
  above = λ j k. get_or-set_other w i j x 0 (λ e. omega arith) ∙ g.above j k;
}

pub record Ending (u : List ℕ) (n : ℕ) (w₀ w : List ℕ) (y : ℕ) : Type 0 where
  pub source : EndSource u n w
  pub frame : EndsFrame w₀ w
  pub ends : EndsTo u y w
  pub done : y ≤ n

pub ending_start : {u : List ℕ} {n : ℕ} {w : List ℕ} → EndSource u n w → Ending u n w w 0
ending_start g = record {
  source = g;
  frame = record { same = refl; above = λ i h. refl };
  ends = record { end_is = λ j h. none_below_lem h; width_is = λ j h. none_below_lem h };
  done = omega arith;
}

module _ {u : List ℕ} {n : ℕ} {w₀ w : List ℕ} {y : ℕ} (g : Ending u n w₀ w y) (h : y < n) where
  pub ending_asks : EndSource (held_t n w) n w × (y < n)
  ending_asks = (rw g.source.T_is g.source, h)

  module _ {c : Cusp} (e : (c.number ≡ cusp_at (held_t n w) y) × OnCusp (held_t n w) c y) where
    here : (c.number ≡ cusp_at u y) × OnCusp u c y
    here = rw g.source.T_is at e

    pub end_low : c.first + c.width ≤ ROOM
    end_low = omega (arith, at_fits g.source.permutes here.1.at, g.source.size, g.source.room)

    end_here : c.first + c.width ≡ cusp_first u (cusp_at u y) + cusp_width u (cusp_at u y)
    end_here = omega (arith, here.1.at.first_is, here.1.at.width_is, ap (cusp_first u) here.0, ap (cusp_width u) here.0)

    width_here : c.width ≡ cusp_width u (cusp_at u y)
    width_here = here.1.at.width_is ∙ ap (cusp_width u) here.0

    pub ending_more : Ending u n w₀ (set (set w (END + y) (c.first + c.width)) (WIDTH + y) c.width) (y + 1)
    ending_more =
        let room = g.source.room in
        let long = g.source.long in
        let f = c.first + c.width in
        let w1 = set w (END + y) f in
        let l1 = length-set w (END + y) f in
        record {
          source = source_set (WIDTH + y) c.width (source_set (END + y) f g.source (inl (omega arith, omega arith))) (inr (omega arith, omega arith));
          frame = frame_set (WIDTH + y) c.width (frame_set (END + y) f g.frame (omega arith)) (omega arith);
          ends = record {
            end_is = λ j k. get_or-set_other w1 (WIDTH + y) (END + j) c.width 0 (λ q. omega arith) ∙ elim (ℕ_discrete j y) [
              | yes d ↦ rw d (get_or-set_same w (END + y) f 0 (omega arith) ∙ end_here)
              | no d ↦ get_or-set_other w (END + y) (END + j) f 0 (λ q. d (omega arith)) ∙ g.ends.end_is j (omega arith)
            ];
            width_is = λ j k. elim (ℕ_discrete j y) [
              | yes d ↦ rw d (get_or-set_same w1 (WIDTH + y) c.width 0 (omega arith) ∙ width_here)
              | no d ↦
                  get_or-set_other w1 (WIDTH + y) (WIDTH + j) c.width 0 (λ q. d (omega arith))
                  ∙ get_or-set_other w (END + y) (WIDTH + j) f 0 (λ q. omega arith) ∙ g.ends.width_is j (omega arith)
            ];
          };
          done = omega arith;
        }

pub ending_end : {u : List ℕ} {n : ℕ} {w₀ w : List ℕ} {y : ℕ} → Ending u n w₀ w y → n ≤ y → EndsTo u n w × EndsFrame w₀ w
ending_end {n = n} {y = y} g h = let e : y ≡ n = omega (arith, g.done) in (rw e at g.ends, g.frame)

-- ---- from the coset record of a symbol

module _ {v : ℕ} {t : List ℤ} (ok : IsSymbol v t) {w₀ w : List ℕ} {n : ℕ} (r : SymbolRecord v t w₀ w n) where
  abbrev s : List ℕ
  s = table_s v t

  abbrev u : List ℕ
  u = table_t v t

  S_low : (x : ℕ) → x < n → image_at s x < n
  S_low x h = omega (arith, tabled.S_low (symbol_cosets ok) x (omega (arith, r.index)), r.index)

  turn_source_by : TurnSource s u n w
  turn_source_by = record {
    long = r.lists.long;
    room = r.lists.room;
    size = r.lists.size;
    permutes = r.lists.permutes;
    S_low = S_low;
    S_is = λ x h. sym (entries_at S_TABLE n w x h) ∙ ap (λ (l : List ℕ). image_at l x) r.S_is;
    order_is = r.lists.order_is;
    number_is = r.lists.number_is;
  }

  pub turn_source : TurnSource (held_s n w) (held_t n w) n w
  turn_source = rw (r.S_is, r.T_is) turn_source_by

  end_source_by : EndSource u n w
  end_source_by = record {
    long = r.lists.long;
    room = r.lists.room;
    size = r.lists.size;
    permutes = r.lists.permutes;
    few = r.lists.few;
    order_is = r.lists.order_is;
    cusp_is = λ x h. sym (entries_at CUSPS n w x h) ∙ ap (λ (l : List ℕ). image_at l x) r.cusps_are
        ∙ cusp_at_lem r.lists.permutes x (omega (arith, r.lists.size));
    steps_are = λ x h. sym (entries_at STEPS n w x h) ∙ ap (λ (l : List ℕ). image_at l x) r.steps_are
        ∙ steps_at r.lists.permutes x (omega (arith, r.lists.size));
    width_is = r.lists.width_is;
    T_is = r.T_is;
  }

  -- S by place has been entered
  module _ {w1 : List ℕ} (a : TurnsAt (held_s n w) (held_t n w) n w1 × ChangedWithin TURN T_TABLE w w1) where
    abbrev e : EndSource u n w
    e = end_source_by

    T1 : held_t n w1 ≡ u
    T1 = entries_same T_TABLE n w w1 a.1.same (omega (arith, e.long, e.room)) (λ i h k. a.1.above i h) ∙ r.T_is

    pub end_source : EndSource (held_t n w1) n w1
    end_source =
        let room = e.room in
        let few = e.few in
        let below : (i : ℕ) → i < TURN → get_or w1 i 0 ≡ get_or w i 0 = a.1.below in
        let by : EndSource u n w1 = record {
          long = omega (arith, e.long, a.1.same);
          room = room;
          size = e.size;
          permutes = e.permutes;
          few = few;
          order_is = λ y h. below (ORDER + y) (omega arith) ∙ e.order_is y h;
          cusp_is = λ x h. below (CUSPS + x) (omega arith) ∙ e.cusp_is x h;
          steps_are = λ x h. below (STEPS + x) (omega arith) ∙ e.steps_are x h;
          width_is = λ k h. below (WIDTHS + k) (omega arith) ∙ e.width_is k h;
          T_is = T1;
        } in
        rw T1 by

    -- and ends and widths
    module _ {w2 : List ℕ} (b : EndsTo (held_t n w1) n w2 × EndsFrame w1 w2) where
      T2 : held_t n w2 ≡ u
      T2 = entries_same T_TABLE n w1 w2 b.1.same (omega (arith, e.long, e.room, a.1.same)) (λ i h k. b.1.above i (omega arith)) ∙ T1

      ends : EndsTo u n w2
      ends = rw T1 at b.0

      turns : TurnsAt s u n w2
      turns =
          let first : TurnsAt s u n w1 = rw (r.S_is, r.T_is) at a.0 in
          record { turn_is = λ j h. b.1.above (TURN + j) (omega arith) ∙ first.turn_is j h }

      pub symbol_places : SymbolPlaces v t w₀ w2 n
      symbol_places = record {
        index = r.index;
        same = b.1.same ∙ a.1.same ∙ r.same;
        prepared = record {
          long = omega (arith, e.long, a.1.same, b.1.same);
          some = r.lists.some;
          room = e.room;
          permutes = rw T2 e.permutes;
          turn_low = λ y h. rw (turns.turn_is y h) (place_low y h);
          end_is = rw T2 ends.end_is;
          width_is = rw T2 ends.width_is;
        };
        T_is = T2;
        turns = turns;
      }
        where
          place_low : (y : ℕ) → y < n → cusp_place u (image_at s (cusp_entry u y)) < n
          place_low y h =
              let o = in_order_is e.permutes in
              let x = S_low (cusp_entry u y) (omega (arith, o.point_low y (omega (arith, e.size)), e.size)) in
              omega (arith, o.place_low (image_at s (cusp_entry u y)) (omega (arith, e.size)), e.size)

-- ---- the coset tables guide

leads-≈ : (s r : List ℕ) (m n : Mat) → m ≈ n → leads s r m ≡ leads s r n
unfolding action.at
leads-≈ s r m n e = ap (action.run (image_at s) (by_table_q s r) 0) (word_of-≈ e)

pub guided : {v : ℕ} {t : List ℤ} {w w' : List ℕ} {n : ℕ} → IsSymbol v t → SymbolPlaces v t w w' n
    → Guided (held_turns n w') (held_t n w') (leads (table_s v t) (table_r v t))
guided {v} {t} {w} {w'} {n} ok g =
    let s = table_s v t in
    let u = table_t v t in
    let c = (meaning ok).cosets in
    let p = c.permutes_T in
    let o = in_order_is p in
    let low : (m : Mat) → det m ≡ pos 1 → leads s (table_r v t) m < length u = λ m d. omega (arith, c.of_H.low m d, c.size_T) in
    let by : Guided (held_turns n w') u (leads s (table_r v t)) = record {
      permutes = p;
      point_low = low;
      zero = one_home c.of_H;
      by_S = λ m d.
          let x = leads s (table_r v t) m in
          let y = cusp_place u x in
          let yl : y < n = omega (arith, o.place_low x (low m d), c.size_T, g.index) in
          ap (cusp_place u) (c.of_H.by_S m d)
          ∙ sym (entries_at TURN n w' y yl ∙ g.turns.turn_is y yl ∙ ap (λ (i : ℕ). cusp_place u (image_at s i)) (o.at_place x (low m d)));
      by_T = c.by_T;
      up_to_sign = leads-≈ s (table_r v t);
    } in
    rw g.T_is by
