-- The number of cycles of a permutation of order two or three, by its fixed points: `order_two` and `order_three`.
-- Why: each point is fixed or lies in a cycle of the order's length. The lengths of all cycles add up to the points, and the fixed points are cycles of
-- length 1: `by_lengths`, for any order.
-- Assumes nothing.
use mathlib.Core.Path.{◌≡◌, sym, ap, ◌∙◌}
use mathlib.Core.Logic.{◌≢◌, inl, inr}
use mathlib.Core.Bool.{true}
use mathlib.Core.List.{List, [], ◌∷◌}
use Prim.Native.Nat.{ℕ, zero, suc, ◌+◌, ◌*◌, ◌≤◌, ◌<◌}
use native.Mathlib.Omega.{arith}
use native.Mathlib.Decide.{dec_lt, ℕ_discrete}
use lib.ListN.{length, length-append}
use borrow.Author.Tests.{eqb-true, eq-eqb}
use Rattle.basics.specs.Count.{those}
use Rattle.basics.proofs.Choice.{either, clash}
use Rattle.numbering.specs.Table.{image_at, Permutes}
use Rattle.numbering.proofs.Those.{those_yes, those_no}
use Rattle.figures.specs.Cusps.{is_fixed, fixed_points, times, width, cycle, smallest, cusps_to, cusps, cycles, Width}
use Rattle.figures.proofs.Cycle.{cycle_length, width_is}
use Rattle.figures.proofs.Cusps.{cycles_last, cycles_length, cusps_are}
use Rattle.figures.specs.RiemannHurwitz.{cycle_number}
use Rattle.figures.proofs.Cycles.{fixed_smallest}
use Rattle.figures.proofs.TableCycles.{table_permutes, smallest_cusp}

-- a point comes back for the first time once
width_one : {t : List ℕ} {x j k : ℕ} → Width t x j → Width t x k → j ≡ k
width_one {t} {x} {j} {k} a b = elim (dec_lt j k) [
  | yes h ↦ absurd (b.first j a.some h a.back)
  | no h ↦ elim (dec_lt k j) [ yes g ↦ absurd (a.first k b.some g b.back) | no g ↦ omega arith ]
]

module _ {t : List ℕ} (p : Permutes t) where
  fixed_width : (x : ℕ) → x < length t → image_at t x ≡ x → width t x ≡ 1
  unfolding times
  fixed_width x h e = width_one (width_is p h) (record { some = omega arith; back = e; first = λ j a b. absurd (omega arith) })

  -- ---- every cycle is one point or `suc k` of them
  module _ (k : ℕ) (moved : (x : ℕ) → x < length t → image_at t x ≢ x → width t x ≡ suc k) where
    -- those that begin below i
    abbrev Counted : ℕ → Type 0
    Counted i = length (cycles t (cusps_to t i)) + k * length (those (is_fixed t) i) ≡ suc k * length (cusps_to t i)

    with_cusp : (i : ℕ) → smallest t i ≡ true → length (cycles t (cusps_to t (suc i))) ≡ length (cycles t (cusps_to t i)) + width t i
    with_cusp i e =
        ap (λ (l : List ℕ). length (cycles t l)) (those_yes (smallest t) i e) ∙ ap length (cycles_last t (cusps_to t i) i)
        ∙ length-append (cycles t (cusps_to t i)) (cycle t i) ∙ omega (arith, cycle_length t i)

    one_cusp : (i : ℕ) → smallest t i ≡ true → length (cusps_to t (suc i)) ≡ suc (length (cusps_to t i))
    one_cusp i e = ap length (those_yes (smallest t) i e) ∙ omega (arith, length-append (cusps_to t i) (i ∷ []))

    one_fixed : (i : ℕ) → is_fixed t i ≡ true → length (those (is_fixed t) (suc i)) ≡ suc (length (those (is_fixed t) i))
    one_fixed i e = ap length (those_yes (is_fixed t) i e) ∙ omega (arith, length-append (those (is_fixed t) i) (i ∷ []))

    counted_more : (i : ℕ) → i < length t → Counted i → Counted (suc i)
    counted_more i h c = elim (either (is_fixed t i)) [
      | inl e ↦
          let f = eqb-true (image_at t i) i e in
          let s = smallest_cusp p i h (fixed_smallest (table_permutes p) h f) in
          omega (arith, with_cusp i s, ap (λ (c : ℕ). suc k * c) (one_cusp i s), ap (λ (c : ℕ). k * c) (one_fixed i e), fixed_width i h f)
      | inr e ↦
          let same = ap (λ (l : List ℕ). k * length l) (those_no (is_fixed t) i e) in
          let w = moved i h (λ d. clash (eq-eqb (image_at t i) i d) e) in
          elim (either (smallest t i)) [
            | inl s ↦ omega (arith, with_cusp i s, ap (λ (c : ℕ). suc k * c) (one_cusp i s))
            | inr s ↦
                let none = those_no (smallest t) i s in
                omega (arith, ap (λ (l : List ℕ). suc k * length l) none, ap (λ (l : List ℕ). length (cycles t l)) none)
          ]
    ]

    counted : (i : ℕ) → i ≤ length t → Counted i
    unfolding cycles
    counted zero h = omega arith
    counted (suc i) h = counted_more i (omega arith) (counted i (omega arith))

    by_lengths : suc k * cycle_number t ≡ length t + k * fixed_points t
    by_lengths = omega (arith, counted (length t) (omega arith), cycles_length t (cusps t), (cusps_are p).total)

  -- ---- order two, order three

  pub order_two : ((x : ℕ) → x < length t → image_at t (image_at t x) ≡ x) → 2 * cycle_number t ≡ length t + fixed_points t
  unfolding times
  order_two twice = omega (
    arith,
    by_lengths 1 (λ x h ne. width_one (width_is p h) (record {
      some = omega arith;
      back = twice x h;
      first = λ j a b. let e : j ≡ 1 = omega arith in rw e ne;
    })),
  )

  pub order_three : ((x : ℕ) → x < length t → image_at t (image_at t (image_at t x)) ≡ x) → 3 * cycle_number t ≡ length t + 2 * fixed_points t
  unfolding times
  order_three thrice = omega (
    arith,
    by_lengths 2 (λ x h ne. width_one (width_is p h) (record {
      some = omega arith;
      back = thrice x h;
      first = λ j a b. elim (ℕ_discrete j 1) [
        | yes e ↦ rw e ne
        | no e ↦ let d : j ≡ 2 = omega arith in rw d (λ q. ne (ap (image_at t) (sym q) ∙ thrice x h))
      ];
    })),
  )
