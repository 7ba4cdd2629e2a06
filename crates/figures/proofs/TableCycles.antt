-- The cycles of a table are as many as `cycle_count` says of its map: `table_cycles`.
-- Why: the table's cusps are the points that are smallest in their cycle. Labels that tell a cycle's points from all others show that its cusp is such a
-- point; and labels that the table keeps are equal along a cycle, so that a smallest point is no other than the cusp of its cycle.
-- Assumes nothing.
use mathlib.Core.Path.{◌≡◌, refl, sym, ap, ◌∙◌}
use mathlib.Core.Bool.{true}
use mathlib.Core.List.{List}
use Prim.Native.Nat.{ℕ, zero, suc, ◌<◌}
use native.Mathlib.Omega.{arith}
use native.Mathlib.Decide.{dec_lt}
use lib.ListN.{length}
use borrow.Author.Tests.{lt-ltb, le-ltb}
use Rattle.basics.specs.Choice.{pick}
use Rattle.basics.proofs.Choice.{pick_true, pick_false}
use Rattle.basics.proofs.Count.{length_those}
use Rattle.numbering.specs.Find.{find, ◌∈◌, is_in}
use Rattle.numbering.specs.Table.{image_at, Permutes}
use Rattle.figures.specs.Cusps.{times, cycle, smallest}
use Rattle.figures.proofs.Cycle.{cycle_self, cycle_times, cycle_reached, cycle_sym, cycle_trans}
use Rattle.figures.proofs.Cusps.{cusps_are}
use Rattle.figures.specs.RiemannHurwitz.{cycle_number}
use Rattle.figures.proofs.Exchange.{PermutesBelow}
use Rattle.figures.proofs.Cycles.{cycle_count, Kept, Smallest, count_smallest}

module _ {t : List ℕ} (p : Permutes t) where
  pub table_permutes : PermutesBelow (length t) (image_at t)
  table_permutes = record { low = p.low; one = p.one }

  -- ---- a cycle and its cusp

  module _ {x : ℕ} (h : x < length t) where
    image_in : (z : ℕ) → z < length t → z ∈ cycle t z → image_at t z ∈ cycle t z
    unfolding times
    image_in z k i = cycle_times p k 1 z i

    step_in : (z : ℕ) → z ∈ cycle t x → image_at t z ∈ cycle t x
    unfolding times
    step_in z i = cycle_times p h 1 z i

    back_in : (z : ℕ) → z < length t → image_at t z ∈ cycle t x → z ∈ cycle t x
    back_in z k i = cycle_trans p x (image_at t z) z h i (cycle_sym p z (image_at t z) k (image_in z k (cycle_self p k)))

    abbrev in_cycle : ℕ → ℕ
    in_cycle y = pick (is_in (cycle t x) y) 1 0

    in_label : (y : ℕ) → y ∈ cycle t x → in_cycle y ≡ 1
    in_label y i = pick_true {A = ℕ} (is_in (cycle t x) y) 1 0 (lt-ltb (find (cycle t x) y) (length (cycle t x)) i)

    out_label : (y : ℕ) → (y ∈ cycle t x → ⊥) → in_cycle y ≡ 0
    out_label y i = pick_false {A = ℕ} (is_in (cycle t x) y) 1 0 (le-ltb (find (cycle t x) y) (length (cycle t x)) (omega arith))

    in_kept : Kept (length t) (image_at t) in_cycle
    in_kept z k = elim (dec_lt (find (cycle t x) z) (length (cycle t x))) [
      | yes i ↦ in_label (image_at t z) (step_in z i) ∙ sym (in_label z i)
      | no i ↦ out_label (image_at t z) (λ j. i (back_in z k j)) ∙ sym (out_label z i)
    ]

    cusp_smallest : smallest t x ≡ true → Smallest (length t) (image_at t) x
    cusp_smallest e = record {
      label = in_cycle;
      kept = in_kept;
      least = λ y k q. elim (dec_lt (find (cycle t x) y) (length (cycle t x))) [
        | yes i ↦ (cusps_are p).least y (record { cusp = x; low = h; small = e; has = i })
        | no i ↦ absurd (omega (arith, out_label y i, in_label x (cycle_self p h)))
      ];
    }

  -- ---- a smallest point and its cusp

  kept_along : (l : ℕ → ℕ) → Kept (length t) (image_at t) l → (k y : ℕ) → y < length t → l (times t k y) ≡ l y
  unfolding times
  kept_along l kept zero y h = refl
  kept_along l kept (suc k) y h = kept_along l kept k (image_at t y) (p.low y h) ∙ kept y h

  pub smallest_cusp : (x : ℕ) → x < length t → Smallest (length t) (image_at t) x → smallest t x ≡ true
  smallest_cusp x h s =
      let o = (cusps_are p).each x h in
      let l = s.label in
      let same : l o.cusp ≡ l x =
      sym (kept_along l s.kept (find (cycle t o.cusp) x) o.cusp o.low) ∙ ap l (cycle_reached p o.low o.has) in
      let e : o.cusp ≡ x = omega (arith, s.least o.cusp o.low same, (cusps_are p).least x o) in
      ap (smallest t) (sym e) ∙ o.small

  pub table_cycles : cycle_count (length t) (image_at t) ≡ cycle_number t
  table_cycles = count_smallest (length t) (image_at t) (smallest t) table_permutes (λ x h. cusp_smallest h) smallest_cusp
      ∙ sym (length_those (smallest t) (length t))
