-- The theorems on the coset record: `columns`, `coset_record` and `in_order_is`.
-- Why: j steps from the smallest point of the cusp k lead to a point of that cusp (`cusp_there`), which stands j places behind the cusp's first one
-- (`point_there`) and has j steps, as long as j is below the width (`steps_there`). Each point is reached so (`from_c`), and T adds one to j.
-- In order: lists in ascending order; the cusps; j steps from a smallest point; n steps from any point; the coset 0; the columns; the theorems.
-- Assumes nothing.
use mathlib.Core.Path.{◌≡◌, sym, ap, ◌∙◌}
use mathlib.Core.Logic.{◌≢◌, inl, inr}
use mathlib.Core.Bool.{Bool}
use mathlib.Core.List.{List, [], ◌∷◌, ◌++◌, map}
use Prim.Native.Nat.{ℕ, zero, suc, ◌+◌, ◌-◌, ◌%◌, ◌≤◌, ◌<◌}
use native.Mathlib.Nat.{mod-lt}
use native.Mathlib.Omega.{arith}
use native.Mathlib.Decide.{dec_lt}
use lib.ListN.{length, get_or, length-map, length-append, get_or-append}
use lib.Seq.{get_or-append-add}
use Rattle.numbering.specs.Find.{find, ◌∈◌}
use Rattle.basics.specs.Count.{those}
use Rattle.numbering.specs.Order.{up_to}
use Rattle.numbering.specs.Table.{image_at, ◌then_table◌, Permutes, Permutations}
use Rattle.numbering.proofs.Find.{none_below_lem, test, get_d_find, get_d_in, once_inj}
use Rattle.numbering.proofs.Numbered.{up_to_length, up_to_at}
use Rattle.numbering.proofs.Those.{those_yes, those_no, those_low, those_in, those_once, those_true}
use Rattle.numbering.proofs.Table.{get_d_map, then_length, then_at}
use Rattle.figures.specs.Cusps.{times, width, cycle, smallest, cusps, widths, sum, Lies}
use Rattle.figures.proofs.Cycle.{times_add, times_low, cycle_length, cycle_at, cycle_once, cycle_self, cycle_reached, cycle_times, width_is}
use Rattle.figures.proofs.Cusps.{cycles_length, points_once, points_low, points_all, cusps_are}
use Rattle.cusp_record.specs.Record.{cusp_point, cusp_width, cusp_of, cusp_steps, cusp_table, step_table, cusp_order, cusp_place, cusp_first, cusp_onward}
use Rattle.cusp_record.specs.Record.{CuspColumns, CosetRecord, InCuspOrder}
use Rattle.cusp_record.proofs.Cycles.{Among, among, entry, parts, rest_next, times_rest}

-- the numbers that pass a test are listed in ascending order
those_up : (t : ℕ → Bool) (n j k : ℕ) → j < k → k < length (those t n) → get_or (those t n) j 0 < get_or (those t n) k 0
those_up t zero j k h l = none_below_lem l
those_up t (suc n) j k h l =
    let a = those t n in
    elim (test (t n)) [
      | inr q ↦ rw (those_no t n q) (those_up t n j k h (rw (those_no t n q) at l))
      | inl q ↦
          let i : k < length (a ++ (n ∷ [])) = rw (those_yes t n q) at l in
          let len = length-append a (n ∷ []) in
          let before : (m : ℕ) → m < length a → get_or (a ++ (n ∷ [])) m 0 ≡ get_or a m 0 = get_or-append a (n ∷ []) 0 in
          rw (those_yes t n q) (elim (dec_lt k (length a)) [
            | yes g ↦ omega (arith, before j (omega arith), before k g, those_up t n j k h g)
            | no g ↦
                let e : k ≡ length a + 0 = omega arith in
                let last : get_or (a ++ (n ∷ [])) k 0 ≡ n = ap (λ (m : ℕ). get_or (a ++ (n ∷ [])) m 0) e ∙ get_or-append-add a (n ∷ []) 0 0 in
                omega (arith, last, before j (omega arith), those_low t n (get_or a j 0) (get_d_in a j (omega arith)))
          ])
    ]

module _ {u : List ℕ} (p : Permutes u) where
  -- ---- the cusps
  pub point_low : (k : ℕ) → k < length (cusps u) → cusp_point u k < length u
  point_low k h = those_low (smallest u) (length u) (cusp_point u k) (get_d_in (cusps u) k h)

  pub width_at : (k : ℕ) → k < length (cusps u) → cusp_width u k ≡ width u (cusp_point u k)
  width_at k h = get_d_map (width u) (cusps u) k h

  pub width_some : (k : ℕ) → k < length (cusps u) → 0 < cusp_width u k
  width_some k h = rw (width_at k h) (width_is p (point_low k h)).some

  pub fits : (k : ℕ) → k < length (cusps u) → cusp_first u k + cusp_width u k ≤ length u
  fits k h = omega (arith, parts (widths u) k, rest_next (widths u) k, (cusps_are p).total)

  abbrev lies_in : (k x : ℕ) → k < length (cusps u) → x ∈ cycle u (cusp_point u k) → Lies u (length u) x
  lies_in k x h i = record {
    cusp = cusp_point u k;
    low = point_low k h;
    small = those_true (smallest u) (length u) (cusp_point u k) (get_d_in (cusps u) k h);
    has = i;
  }

  -- some cusp has x, so the search for one ends at a cusp
  cusp_found : (x : ℕ) → x < length u → Among u (cusps u) x
  cusp_found x h =
      let e = (cusps_are p).each x h in
      let i = those_in (smallest u) (length u) e.cusp e.low e.small in
      among u (cusps u) x (find (cusps u) e.cusp) i (rw (get_d_find (cusps u) e.cusp i) e.has)

  abbrev lies : (x : ℕ) → x < length u → Lies u (length u) x
  lies x h = let f = cusp_found x h in lies_in (cusp_of u x) x f.low f.has

  -- no two cusps share a point, so a cusp that has x is the one found
  cusp_is : (k x : ℕ) → k < length (cusps u) → x < length u → x ∈ cycle u (cusp_point u k) → cusp_of u x ≡ k
  cusp_is k x h l i =
      once_inj (cusps u) (those_once (smallest u) (length u)) (cusp_of u x) k (cusp_found x l).low h ((cusps_are p).one x (lies x l) (lies_in k x h i))

  -- ---- j steps from the smallest point of the cusp k
  module _ (k : ℕ) (h : k < length (cusps u)) where
    abbrev b : ℕ
    b = cusp_point u k

    l : b < length u
    l = point_low k h

    back : times u (cusp_width u k) b ≡ b
    back = ap (λ (i : ℕ). times u i b) (width_at k h) ∙ (width_is p l).back

    pub cusp_there : (j : ℕ) → cusp_of u (times u j b) ≡ k
    cusp_there j = cusp_is k (times u j b) h (times_low p j b l) (cycle_times p l j b (cycle_self p l))

    pub steps_there : (j : ℕ) → j < cusp_width u k → cusp_steps u (times u j b) ≡ j
    steps_there j i =
        let short : j < width u b = omega (arith, width_at k h) in
        ap (λ (m : ℕ). find (cycle u (cusp_point u m)) (times u j b)) (cusp_there j)
        ∙ ap (find (cycle u b)) (sym (cycle_at u b j short)) ∙ (cycle_once p l).place j (omega (arith, cycle_length u b))

    pub point_there : (j : ℕ) → j < cusp_width u k → get_or (cusp_order u) (cusp_first u k + j) 0 ≡ times u j b
    point_there j i = entry u (cusps u) k j h (omega (arith, width_at k h))

    steps_all : (j : ℕ) → cusp_steps u (times u j b) ≡ j % cusp_width u k
    steps_all j = ap (cusp_steps u) (times_rest u (cusp_width u k) b back j) ∙ steps_there (j % cusp_width u k) (mod-lt j {m = cusp_width u k} (width_some k h))

  cusp_of_point : (k : ℕ) → k < length (cusps u) → cusp_of u (cusp_point u k) ≡ k
  unfolding times
  cusp_of_point k h = cusp_there k h 0

  steps_of_point : (k : ℕ) → k < length (cusps u) → cusp_steps u (cusp_point u k) ≡ 0
  unfolding times
  steps_of_point k h = steps_there k h 0 (width_some k h)

  -- ---- a point x, and n steps from there
  order_size : length (cusp_order u) ≡ length u
  order_size = cycles_length u (cusps u) ∙ (cusps_are p).total

  module _ (x : ℕ) (h : x < length u) where
    abbrev k : ℕ
    k = cusp_of u x

    abbrev c : ℕ
    c = cusp_point u k

    pub k_low : k < length (cusps u)
    k_low = (cusp_found x h).low

    pub steps_low : cusp_steps u x < cusp_width u k
    steps_low = omega (arith, (cusp_found x h).has, cycle_length u c, width_at k k_low)

    from_c : times u (cusp_steps u x) c ≡ x
    from_c = cycle_reached p (point_low k k_low) (cusp_found x h).has

    -- a point met after j steps has j steps
    none_before : (j : ℕ) → j < cusp_steps u x → times u j c ≢ x
    none_before j i e =
        let no : ⊥ = omega (arith, steps_there k k_low j (omega (arith, steps_low)), ap (cusp_steps u) e) in absurd no

    pub place_at_lem : cusp_place u x ≡ cusp_first u k + cusp_steps u x
    place_at_lem =
        let y = cusp_first u k + cusp_steps u x in
        let low : y < length (cusp_order u) = omega (arith, fits k k_low, steps_low, order_size) in
        ap (find (cusp_order u)) (sym (point_there k k_low (cusp_steps u x) steps_low ∙ from_c)) ∙ (points_once p).place y low

    on : (n : ℕ) → times u n x ≡ times u (cusp_steps u x + n) c
    on n = ap (times u n) (sym from_c) ∙ sym (times_add u (cusp_steps u x) n c)

    -- once round the cusp, from any of its points
    pub round : times u (cusp_width u k) x ≡ x
    round =
        let w = cusp_width u k in
        let e : cusp_steps u x + w ≡ w + cusp_steps u x = omega arith in
        on w ∙ ap (λ (i : ℕ). times u i c) e ∙ times_add u w (cusp_steps u x) c ∙ ap (times u (cusp_steps u x)) (back k k_low) ∙ from_c

    same_cusp : (n : ℕ) → cusp_of u (times u n x) ≡ k
    same_cusp n = ap (cusp_of u) (on n) ∙ cusp_there k k_low (cusp_steps u x + n)

    more_steps : (n : ℕ) → cusp_steps u (times u n x) ≡ (cusp_steps u x + n) % cusp_width u k
    more_steps n = ap (cusp_steps u) (on n) ∙ steps_all k k_low (cusp_steps u x + n)

  -- from a point of a cusp T comes to each other one: on to the end of the round, and then its steps
  pub ahead : (x y : ℕ) (h : x < length u) (l : y < length u) → cusp_of u x ≡ cusp_of u y
      → times u (cusp_width u (cusp_of u x) - cusp_steps u x + cusp_steps u y) x ≡ y
  ahead x y h l e =
      let k = cusp_of u x in
      let w = cusp_width u k in
      let z = cusp_steps u y in
      let n : cusp_steps u x + (w - cusp_steps u x + z) ≡ w + z = omega (arith, steps_low x h) in
      on x h (w - cusp_steps u x + z) ∙ ap (λ (i : ℕ). times u i (cusp_point u k)) n ∙ times_add u w z (cusp_point u k)
      ∙ ap (times u z) (back k (k_low x h)) ∙ ap (λ (i : ℕ). times u z (cusp_point u i)) e ∙ from_c y l

  -- ---- the coset 0 is the first of its cusp, which is the first of all
  ascending : (j k : ℕ) → j < k → k < length (cusps u) → cusp_point u j < cusp_point u k
  ascending = those_up (smallest u) (length u)

  pub place_zero : 0 < length u → cusp_place u 0 ≡ 0
  unfolding sum
  place_zero h =
      let low = k_low 0 h in
      let least = (cusps_are p).least 0 (lies 0 h) in
      let k : cusp_of u 0 ≡ 0 = elim (dec_lt 0 (cusp_of u 0)) [
        | yes i ↦ let no : ⊥ = omega (arith, ascending 0 (cusp_of u 0) i low) in absurd no
        | no i ↦ omega arith
      ] in
      let z : cusp_point u 0 ≡ 0 = omega (arith, ap (cusp_point u) k) in
      let s : cusp_steps u 0 ≡ 0 = rw z at (steps_of_point 0 (omega arith)) in
      place_at_lem 0 h ∙ ap (λ (i : ℕ). cusp_first u i + cusp_steps u 0) k ∙ ap (λ (i : ℕ). 0 + i) s

  -- ---- the columns
  module _ (f : ℕ → ℕ) where
    column_at : (x : ℕ) → x < length u → image_at (map f (up_to (length u))) x ≡ f x
    column_at x h = get_d_map f (up_to (length u)) x (omega (arith, up_to_length (length u))) ∙ ap f (up_to_at (length u) x h)

    column_size : length (map f (up_to (length u))) ≡ length u
    column_size = length-map (up_to (length u)) f ∙ up_to_length (length u)

  pub cusp_at_lem : (x : ℕ) → x < length u → image_at (cusp_table u) x ≡ cusp_of u x
  unfolding cusp_table
  cusp_at_lem = column_at (cusp_of u)

  pub steps_at : (x : ℕ) → x < length u → image_at (step_table u) x ≡ cusp_steps u x
  unfolding step_table
  steps_at = column_at (cusp_steps u)

  pub cusps_size : length (cusp_table u) ≡ length u
  unfolding cusp_table
  cusps_size = column_size (cusp_of u)

  pub steps_size : length (step_table u) ≡ length u
  unfolding step_table
  steps_size = column_size (cusp_steps u)

  -- ---- the theorems
  pub columns : CuspColumns u (cusp_table u) (step_table u)
  unfolding times
  columns = record {
    size_cusps = cusps_size;
    size_steps = steps_size;
    ascending = ascending;
    low = λ x h. rw (cusp_at_lem x h) (k_low x h);
    least = λ x h. rw (cusp_at_lem x h) ((cusps_are p).least x (lies x h));
    leads = λ x h. rw (cusp_at_lem x h, steps_at x h) (from_c x h);
    within = λ x h. rw (cusp_at_lem x h, steps_at x h) (steps_low x h);
    no_fewer = λ x j h l. rw (cusp_at_lem x h) (none_before x h j (rw (steps_at x h) at l));
    cusp_of_is = λ k h. cusp_at_lem (cusp_point u k) (point_low k h) ∙ cusp_of_point k h;
    no_steps = λ k h. steps_at (cusp_point u k) (point_low k h) ∙ steps_of_point k h;
    keeps = λ x h. cusp_at_lem (image_at u x) (p.low x h) ∙ same_cusp x h 1 ∙ sym (cusp_at_lem x h);
    adds = λ x h. rw (cusp_at_lem x h, steps_at x h) (steps_at (image_at u x) (p.low x h) ∙ more_steps x h 1);
  }

  -- the look at the list is at the place of T^n x
  onward : (n x : ℕ) → x < length u → cusp_onward u n x ≡ times u n x
  onward n x h =
      let y = times u n x in
      let i = times_low p n x h in
      ap (λ (j : ℕ). get_or (cusp_order u) j 0)
      (sym (place_at_lem y i ∙ ap (λ (j : ℕ). cusp_first u j + cusp_steps u y) (same_cusp x h n)
      ∙ ap (λ (j : ℕ). cusp_first u (cusp_of u x) + j) (more_steps x h n)))
      ∙ get_d_find (cusp_order u) y (points_all p y i)

  pub in_order_is : InCuspOrder u
  in_order_is = record {
    size = order_size;
    once = points_once p;
    point_low = λ j h. points_low p (get_or (cusp_order u) j 0) (get_d_in (cusp_order u) j (omega (arith, order_size)));
    place_low = λ x h. omega (arith, points_all p x h, order_size);
    at_place = λ x h. get_d_find (cusp_order u) x (points_all p x h);
    of_point = λ j h. (points_once p).place j (omega (arith, order_size));
    place_is = place_at_lem;
    fits = fits;
    keeps_all = λ n x h. same_cusp x h n;
    adds_all = λ n x h. more_steps x h n;
    onward_is = onward;
  }

-- two permutations and their product
pub then_permutes : {s r : List ℕ} → Permutes s → Permutes r → length r ≡ length s → Permutes (s then_table r)
then_permutes {s} {r} p q e =
    let n = then_length s r in
    let image : (j : ℕ) → j < length s → image_at (s then_table r) j ≡ image_at r (image_at s j) = then_at s r in
    record {
      low = λ j h. rw (image j (omega arith)) (omega (arith, q.low (image_at s j) (omega (arith, p.low j (omega arith)))));
      one = λ j k h i d.
          p.one j k (omega arith) (omega arith) (q.one (image_at s j) (image_at s k) (omega (arith, p.low j (omega arith)))
          (omega (arith, p.low k (omega arith))) (sym (image j (omega arith)) ∙ d ∙ image k (omega arith)));
    }

pub coset_record : {s r u : List ℕ} → Permutations s r u → u ≡ s then_table r → CosetRecord s r u (cusp_table u) (step_table u)
coset_record g e = record { permutations = g; T_is = e; columns = columns g.T }
