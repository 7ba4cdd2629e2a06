-- Runs of T in a cusp, by places.
-- Why: j steps from the place y of a cusp are the place y + j, or that less the width where it isn't before the cusp's end (`along_is`); and T^-q is as many
-- steps onward as end a round (`power_leads`).
-- In order: places of a prepared work space; j steps along a cusp; where T^q leads.
-- Assumes nothing.
use mathlib.Core.Path.{◌≡◌, sym, ap, ◌∙◌}
use mathlib.Core.Bool.{Bool, true, false}
use mathlib.Core.List.{List}
use Prim.Native.Nat.{ℕ, zero, suc, ◌+◌, ◌-◌, ◌%◌, ◌≤◌, ◌<◌}
use native.Mathlib.Nat.{mod-lt, mod-eq_of_lt, mod-eq-sub-mod}
use native.Mathlib.Omega.{arith}
use native.Mathlib.Decide.{dec_lt}
use lib.Dec.{ltb}
use lib.ListN.{length, get_or}
use lib.IntN.{pos, neg_ℤ, +ℤ_invl}
use borrow.Author.Tests.{lt-ltb, le-ltb}
use Rattle.basics.proofs.Choice.{pick_true, pick_false}
use Rattle.matrix.specs.Matrix.{Mat, ◌⊗◌, 𝟙, det, mat_t}
use Rattle.matrix.proofs.Matrix.{⊗-assoc, ⊗-idr, det_one}
use Rattle.numbering.specs.Table.{image_at, Permutes}
use Rattle.numbering.specs.Inner.Space.{ROOM, T_TABLE}
use Rattle.numbering.proofs.Space.{entries_length}
use Rattle.figures.specs.Cusps.{times}
use Rattle.figures.specs.Inner.Scan.{held_t}
use Rattle.figures.proofs.Cycle.{times_last, times_low}
use Rattle.cusp_record.specs.Record.{cusp_width, cusp_of, cusp_steps, cusp_place, cusp_first, InCuspOrder}
use Rattle.cusp_record.specs.Inner.Fill.{cusp_entry}
use Rattle.cusp_record.proofs.Cycles.{times_rest, times_back}
use Rattle.cusp_record.proofs.Record.{width_some, fits, k_low, steps_low, round, in_order_is}
use Rattle.same_coset.specs.Runs.{power_t, Guided}
use Rattle.same_coset.specs.Inner.Places.{END, WIDTH, cusp_at, steps_on, run_place, InCusp, along_cusp, Prepared}
use Rattle.same_coset.specs.Inner.Rows.{signed}
use Rattle.same_coset.proofs.Powers.{det_power_t, power_t-+, power_t_0, power_t_suc}

pub steps_most : (onward : Bool) (q d : ℕ) → 0 < d → steps_on onward q d ≤ d
steps_most true q d h = omega (arith, mod-lt q {m = d} h)
steps_most false q d h = omega arith

-- ---- j steps along a cusp

once_round : (i j d : ℕ) → i < d → j ≤ d → d ≤ i + j → (i + j) % d ≡ i + j - d
once_round i j d a b h = mod-eq-sub-mod h ∙ mod-eq_of_lt (omega arith)

module _ {u : List ℕ} (p : Permutes u) where
  abbrev o : InCuspOrder u
  o = in_order_is p

  module _ (y : ℕ) (h : y < length u) where
    abbrev x : ℕ
    x = cusp_entry u y

    abbrev first : ℕ
    first = cusp_first u (cusp_at u y)

    abbrev d : ℕ
    d = cusp_width u (cusp_at u y)

    xl : x < length u
    xl = o.point_low y h

    pub d_some : 0 < d
    d_some = width_some p (cusp_at u y) (k_low p x xl)

    place_here : y ≡ first + cusp_steps u x
    place_here = sym (o.of_point y h) ∙ o.place_is x xl

    pub cusp_fits : first + d ≤ length u
    cusp_fits = fits p (cusp_at u y) (k_low p x xl)

    pub in_cusp : length u ≤ ROOM → InCusp (first + d) d y
    in_cusp r = record {
      before = omega (arith, place_here, steps_low p x xl);
      from = omega (arith, place_here);
      wide = omega arith;
      room = omega (arith, cusp_fits);
    }

    module _ (j : ℕ) (l : j ≤ d) where
      there : cusp_place u (times u j x) ≡ first + (cusp_steps u x + j) % d
      there =
          let z = times u j x in
          o.place_is z (times_low p j x xl) ∙ ap (λ (k : ℕ). cusp_first u k + cusp_steps u z) (o.keeps_all j x xl)
          ∙ ap (λ (i : ℕ). first + i) (o.adds_all j x xl)

      pub along_is : along_cusp (first + d) d y j ≡ cusp_place u (times u j x)
      along_is = elim (dec_lt (y + j) (first + d)) [
        | yes k ↦
            let e : (cusp_steps u x + j) % d ≡ cusp_steps u x + j = mod-eq_of_lt (omega (arith, place_here)) in
            pick_true (ltb (y + j) (first + d)) (y + j) (y + j - d) (lt-ltb (y + j) (first + d) k) ∙ omega (arith, there, place_here)
        | no k ↦
            pick_false (ltb (y + j) (first + d)) (y + j) (y + j - d) (le-ltb (y + j) (first + d) (omega arith))
            ∙ omega (arith, there, place_here, once_round (cusp_steps u x) j d (steps_low p x xl) l (omega (arith, place_here)))
      ]

-- ---- in the work space

module _ {n : ℕ} {w : List ℕ} (g : Prepared n w) where
  abbrev u : List ℕ
  u = held_t n w

  pub size_u : length u ≡ n
  size_u = entries_length T_TABLE n w (omega (arith, g.long, g.room))

  module _ (y : ℕ) (h : y < n) where
    yl : y < length u
    yl = omega (arith, size_u)

    pub width_low : (0 < get_or w (WIDTH + y) 0) × (get_or w (WIDTH + y) 0 ≤ ROOM)
    width_low = (omega (arith, g.width_is y h, d_some g.permutes y yl), omega (arith, g.width_is y h, cusp_fits g.permutes y yl, size_u, g.room))

    pub place_in : InCusp (get_or w (END + y) 0) (get_or w (WIDTH + y) 0) y
    place_in = rw (g.end_is y h, g.width_is y h) (in_cusp g.permutes y yl (omega (arith, size_u, g.room)))

    pub slide_is : (onward : Bool) (q : ℕ) → along_cusp (get_or w (END + y) 0) (get_or w (WIDTH + y) 0) y (steps_on onward q (get_or w (WIDTH + y) 0))
        ≡ run_place u onward q y
    unfolding run_place
    slide_is onward q =
        let d = cusp_width u (cusp_at u y) in
        rw (g.end_is y h, g.width_is y h) (along_is g.permutes y yl (steps_on onward q d) (steps_most onward q d (d_some g.permutes y yl)))

    pub run_low : (onward : Bool) (q : ℕ) → run_place u onward q y < n
    unfolding run_place
    run_low onward q =
        let j = steps_on onward q (cusp_width u (cusp_at u y)) in
        let o = in_order_is g.permutes in
        omega (arith, size_u, o.place_low (times u j (cusp_entry u y)) (times_low g.permutes j (cusp_entry u y) (o.point_low y yl)))

-- ---- where T^q leads

module _ {turns u : List ℕ} {lead : Mat → ℕ} (g : Guided turns u lead) (m : Mat) (d : det m ≡ pos 1) where
  by_steps : (m : Mat) → det m ≡ pos 1 → (n : ℕ) → lead (m ⊗ power_t (pos n)) ≡ times u n (lead m)
  unfolding times
  by_steps m d zero = ap (λ (k : Mat). lead (m ⊗ k)) power_t_0 ∙ ap lead (⊗-idr m)
  by_steps m d (suc n) =
      ap (λ (k : Mat). lead (m ⊗ k)) (power_t_suc n) ∙ ap lead (sym (⊗-assoc m (power_t (pos n)) mat_t))
      ∙ g.by_T (m ⊗ power_t (pos n)) (det_one m (power_t (pos n)) d (det_power_t (pos n)))
      ∙ ap (image_at u) (by_steps m d n) ∙ sym (times_last u n (lead m))

  -- n steps onward undo T^-n
  undone : (n : ℕ) → times u n (lead (m ⊗ power_t (neg_ℤ (pos n)))) ≡ lead m
  undone n =
      let b = power_t (neg_ℤ (pos n)) in
      let e : b ⊗ power_t (pos n) ≡ 𝟙 = power_t-+ (neg_ℤ (pos n)) (pos n) ∙ ap power_t (+ℤ_invl (pos n)) ∙ power_t_0 in
      sym (by_steps (m ⊗ b) (det_one m b d (det_power_t (neg_ℤ (pos n)))) n)
      ∙ ap lead (⊗-assoc m b (power_t (pos n)) ∙ ap (λ (i : Mat). m ⊗ i) e ∙ ⊗-idr m)

  abbrev c : ℕ
  c = cusp_width u (cusp_of u (lead m))

  power_leads : (onward : Bool) (q : ℕ) → lead (m ⊗ power_t (signed onward (pos q))) ≡ times u (steps_on onward q c) (lead m)
  power_leads true q = by_steps m d q ∙ times_rest u c (lead m) (round g.permutes (lead m) (g.point_low m d)) q
  power_leads false q =
      let b = power_t (neg_ℤ (pos q)) in
      let l = g.point_low m d in
      times_back g.permutes l c q (lead (m ⊗ b)) (width_some g.permutes (cusp_of u (lead m)) (k_low g.permutes (lead m) l))
      (round g.permutes (lead m) l) (g.point_low (m ⊗ b) (det_one m b d (det_power_t (neg_ℤ (pos q))))) (undone q)

  pub run_leads : (onward : Bool) (q : ℕ) → run_place u onward q (cusp_place u (lead m)) ≡ cusp_place u (lead (m ⊗ power_t (signed onward (pos q))))
  unfolding run_place
  run_leads onward q =
      let there = (in_order_is g.permutes).at_place (lead m) (g.point_low m d) in
      rw there (ap (cusp_place u) (sym (power_leads onward q)))
