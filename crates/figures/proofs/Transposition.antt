-- A permutation followed by a transposition has one cycle more or one cycle less: `transposition`.
-- Why: take off the last point m, from both permutations. If the transposition does not move m, they still differ by it. If it exchanges m with x, then m
-- is alone in its cycle under one of the two and not under the other, and they agree on the rest; or both lead from m to a third point w, and they
-- differ on the rest by the transposition of x and w.
-- There is one cycle more only where the two points are in one cycle, so that labels which the permutation keeps are equal there.
--
--   Transposed n x y f     f followed by the transposition of x and y has one cycle less than f; or it has one more, and x and y have one label
--                          whenever f keeps the labels
-- Assumes nothing.
use mathlib.Core.Path.{◌≡◌, sym, ap, ◌∙◌}
use mathlib.Core.Logic.{◌≢◌}
use Prim.Native.Nat.{ℕ, zero, suc, ◌+◌, ◌<◌}
use native.Mathlib.Omega.{arith}
use native.Mathlib.Decide.{ℕ_discrete}
use Rattle.numbering.specs.Table.{◌then◌}
use Rattle.numbering.proofs.Find.{none_below_lem}
use Rattle.figures.proofs.Exchange.{exchange, exchange_first, exchange_second, exchange_other, exchange_sym, exchange_twice, exchange_one}
use Rattle.figures.proofs.Exchange.{exchange_permutes, PermutesBelow, then_permutes, bypass, bypass_on, bypass_same, bypass_permutes}
use Rattle.figures.proofs.Cycles.{cycle_count, cycle_more, cycle_same, cycle_ext, Kept, kept_past}

pub data Transposed (n x y : ℕ) (f : ℕ → ℕ) : Type 0 where
  joins : suc (cycle_count n (f then exchange x y)) ≡ cycle_count n f → Transposed n x y f
  parts : cycle_count n (f then exchange x y) ≡ suc (cycle_count n f) → ((l : ℕ → ℕ) → Kept n f l → l x ≡ l y) → Transposed n x y f

-- the two points change places
transposed_sym : {n x y : ℕ} {f : ℕ → ℕ} → Transposed n y x f → Transposed n x y f
transposed_sym {n} {x} {y} {f} d = go d (cycle_ext n (f then exchange x y) (f then exchange y x) (λ z h. exchange_sym x y (f z)))
  where
    go : Transposed n y x f → cycle_count n (f then exchange x y) ≡ cycle_count n (f then exchange y x) → Transposed n x y f
    go (joins e) q = joins (omega arith)
    go (parts e k) q = parts (omega arith) (λ l h. sym (k l h))

module _ {m : ℕ} {f : ℕ → ℕ} (p : PermutesBelow (suc m) f) where
  -- ---- the last point stays where it is
  module _ {x y : ℕ} (a : x < m) (b : y < m) where
    abbrev g : ℕ → ℕ
    g = f then exchange x y

    last_still : exchange x y m ≡ m
    last_still = exchange_other x y m (λ q. omega arith) (λ q. omega arith)

    only_last : (z : ℕ) → exchange x y z ≡ m → z ≡ m
    only_last z e = exchange_one x y z m (e ∙ sym last_still)

    still_past : (z : ℕ) → z < m → bypass m g z ≡ exchange x y (bypass m f z)
    still_past z h = elim (ℕ_discrete (f z) m) [
      | yes e ↦ bypass_on m g z (ap (exchange x y) e ∙ last_still) ∙ ap (exchange x y) (sym (bypass_on m f z e))
      | no e ↦
          let q = then_permutes p (exchange_permutes {n = suc m} {x = x} {y = y} (omega arith) (omega arith)) in
          bypass_same q m z (omega arith) (omega arith) (λ d. omega arith) (λ d. e (only_last (f z) d))
          ∙ ap (exchange x y) (sym (bypass_same p m z (omega arith) (omega arith) (λ d. omega arith) e))
    ]

    still_count : cycle_count m (bypass m g) ≡ cycle_count m (bypass m f then exchange x y)
    still_count = cycle_ext m (bypass m g) (bypass m f then exchange x y) still_past

    -- either both have the cycle of the last point alone, or neither
    still : Transposed m x y (bypass m f) → Transposed (suc m) x y f
    still d = elim (ℕ_discrete (f m) m) [
      | yes e ↦ go d 1 (omega (arith, cycle_more m f e)) (omega (arith, cycle_more m g (ap (exchange x y) e ∙ last_still)))
      | no e ↦ go d 0 (omega (arith, cycle_same m f e)) (omega (arith, cycle_same m g (λ q. e (only_last (f m) q))))
    ]
      where
        go : Transposed m x y (bypass m f) → (k : ℕ) → cycle_count (suc m) f ≡ k + cycle_count m (bypass m f)
            → cycle_count (suc m) g ≡ k + cycle_count m (bypass m g) → Transposed (suc m) x y f
        go (joins e) k u v = joins (omega (arith, still_count))
        go (parts e s) k u v = parts (omega (arith, still_count)) (λ l h. s l (kept_past p l h))

  -- ---- f fixes the last point: it is a cycle that the product does not have
  module _ {x : ℕ} (a : x < m) where
    fixed_joins : f m ≡ m → suc (cycle_count (suc m) (f then exchange x m)) ≡ cycle_count (suc m) f
    fixed_joins e =
        let g = f then exchange x m in
        let q = then_permutes p (exchange_permutes {n = suc m} {x = x} {y = m} (omega arith) (omega arith)) in
        let moved : g m ≡ x = exchange_second x m (f m) e in
        let off : (z : ℕ) → z < m → f z ≢ m = λ z h d. let w = p.one z m (omega arith) (omega arith) (d ∙ sym e) in omega arith in
        let agree : (z : ℕ) → z < m → bypass m g z ≡ bypass m f z = λ z h.
        let s = bypass_same p m z (omega arith) (omega arith) (λ d. omega arith) (off z h) in
        elim (ℕ_discrete (f z) x) [
          | yes d ↦ bypass_on m g z (exchange_first x m (f z) d) ∙ moved ∙ sym d ∙ sym s
          | no d ↦
              let k = exchange_other x m (f z) d (off z h) in
              bypass_same q m z (omega arith) (omega arith) (λ w. omega arith) (λ w. off z h (sym k ∙ w)) ∙ k ∙ sym s
        ] in
        omega (arith, cycle_more m f e, cycle_same m g (λ d. omega arith), cycle_ext m (bypass m g) (bypass m f) agree)

  -- ---- both lead from the last point to a third one
  module _ {x : ℕ} (a : x < m) (ne : f m ≢ m) (nx : f m ≢ x) where
    abbrev h : ℕ → ℕ
    h = f then exchange x m

    third : h m ≡ f m
    third = exchange_other x m (f m) nx ne

    third_past : (z : ℕ) → z < m → bypass m h z ≡ exchange x (f m) (bypass m f z)
    third_past z k =
        let q = then_permutes p (exchange_permutes {n = suc m} {x = x} {y = m} (omega arith) (omega arith)) in
        let past : f z ≢ m → bypass m f z ≡ f z = bypass_same p m z (omega arith) (omega arith) (λ d. omega arith) in
        elim (ℕ_discrete (f z) m) [
          | yes e ↦
              let w = exchange_second x m (f z) e in
              bypass_same q m z (omega arith) (omega arith) (λ d. omega arith) (λ d. omega arith) ∙ w
              ∙ sym (exchange_second x (f m) (bypass m f z) (bypass_on m f z e))
          | no e ↦ elim (ℕ_discrete (f z) x) [
            | yes d ↦ bypass_on m h z (exchange_first x m (f z) d) ∙ third ∙ sym (exchange_first x (f m) (bypass m f z) (past e ∙ d))
            | no d ↦
                let w = exchange_other x m (f z) d e in
                let apart : f z ≢ f m = λ u. let v = p.one z m (omega arith) (omega arith) u in omega arith in
                bypass_same q m z (omega arith) (omega arith) (λ u. omega arith) (λ u. e (sym w ∙ u)) ∙ w
                ∙ sym (ap (exchange x (f m)) (past e) ∙ exchange_other x (f m) (f z) d apart)
          ]
        ]

    third_count : cycle_count (suc m) h ≡ cycle_count m (bypass m f then exchange x (f m))
    third_count = cycle_same m h (λ e. ne (sym third ∙ e)) ∙ cycle_ext m (bypass m h) (bypass m f then exchange x (f m)) third_past

    third_point : Transposed m x (f m) (bypass m f) → Transposed (suc m) x m f
    third_point (joins e) = joins (omega (arith, third_count, cycle_same m f ne))
    third_point (parts e s) = parts (omega (arith, third_count, cycle_same m f ne)) (λ l k. s l (kept_past p l k) ∙ k m (omega arith))

-- ---- one point more

abbrev Law : ℕ → Type 0
Law n = (x y : ℕ) (f : ℕ → ℕ) → PermutesBelow n f → x < n → y < n → x ≢ y → Transposed n x y f

-- the product undone is the permutation itself
undone_count : (n x y : ℕ) (f : ℕ → ℕ) → cycle_count n (f then exchange x y then exchange x y) ≡ cycle_count n f
undone_count n x y f = cycle_ext n (f then exchange x y then exchange x y) f (λ z h. exchange_twice x y (f z))

with_last : (m : ℕ) → Law m → (x : ℕ) (f : ℕ → ℕ) → PermutesBelow (suc m) f → x < m → Transposed (suc m) x m f
with_last m law x f p h = elim (ℕ_discrete (f m) m) [
  | yes e ↦ joins (fixed_joins p h e)
  | no e ↦ elim (ℕ_discrete (f m) x) [
    | yes d ↦
        let g = f then exchange x m in
        let q = then_permutes p (exchange_permutes {n = suc m} {x = x} {y = m} (omega arith) (omega arith)) in
        parts (omega (arith, fixed_joins q h (exchange_first x m (f m) d), undone_count (suc m) x m f)) (λ l k. ap l (sym d) ∙ k m (omega arith))
    | no d ↦
        let l : f m < suc m = p.low m (omega arith) in
        third_point p h e d (law x (f m) (bypass m f) (bypass_permutes p) h (omega arith) (λ w. d (sym w)))
  ]
]

pub transposition : (n : ℕ) → Law n
transposition zero x y f p a b d = none_below_lem a
transposition (suc m) x y f p a b d = elim (ℕ_discrete y m) [
  | yes e ↦ rw e (with_last m (transposition m) x f p (omega arith))
  | no e ↦ elim (ℕ_discrete x m) [
    | yes c ↦ rw c (transposed_sym (with_last m (transposition m) y f p (omega arith)))
    | no c ↦
        let x_low : x < m = omega arith in
        let y_low : y < m = omega arith in
        still p x_low y_low (transposition m x y (bypass m f) (bypass_permutes p) x_low y_low d)
  ]
]
