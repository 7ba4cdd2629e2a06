-- The number of cycles of a permutation of the points below n, and the labels that it keeps.
-- Why: a permutation that goes past its last point has the cycles that it had, but for one where the point was alone. So the count of cycles takes one
-- point off after another, from the top (`cycle_count`). What it counts are the points that are smallest in their cycle: those which some labels that are
-- kept on each cycle show to be smallest among their label (`Smallest`, `count_smallest`).
--
--   cycle_count n f    the number of cycles of f on the points below n
--   Kept n f l         f keeps the labels l of the points below n: each has the label of its image
--   mark m x           the label 1 for m, and 0 for every other point
--   Smallest n f x     labels that f keeps, and no point below x has the label of x
--
-- In order: one point more; maps that agree; the mark of a fixed point; labels past a point; smallest points.
-- Assumes nothing.
use mathlib.Core.Path.{◌≡◌, refl, sym, ap, ◌∙◌}
use mathlib.Core.Logic.{◌≢◌, inl, inr}
use mathlib.Core.Bool.{Bool, true}
use Prim.Native.Nat.{ℕ, zero, suc, ◌+◌, ◌≤◌, ◌<◌}
use native.Mathlib.Omega.{arith}
use native.Mathlib.Decide.{ℕ_discrete}
use lib.Dec.{eqb}
use borrow.Author.Tests.{eq-eqb, ne_eqb}
use Rattle.basics.specs.Choice.{pick}
use Rattle.basics.specs.Count.{count}
use Rattle.basics.proofs.Choice.{pick_true, pick_false, either, clash}
use Rattle.basics.proofs.Count.{count_yes, count_no}
use Rattle.figures.proofs.Exchange.{exchange_other, PermutesBelow, bypass, bypass_on, bypass_same, bypass_permutes}

unfoldable pub cycle_count : ℕ → (ℕ → ℕ) → ℕ
cycle_count zero f = 0
cycle_count (suc m) f = pick (eqb (f m) m) 1 0 + cycle_count m (bypass m f)

abbrev pub Kept : ℕ → (f l : ℕ → ℕ) → Type 0
Kept n f l = (z : ℕ) → z < n → l (f z) ≡ l z

abbrev pub mark : ℕ → ℕ → ℕ
mark m x = pick (eqb x m) 1 0

pub record Smallest (n : ℕ) (f : ℕ → ℕ) (x : ℕ) : Type 0 where
  pub label : ℕ → ℕ
  pub kept : Kept n f label
  pub least : (y : ℕ) → y < n → label y ≡ label x → x ≤ y

-- ---- one point more

pub cycle_more : (m : ℕ) (f : ℕ → ℕ) → f m ≡ m → cycle_count (suc m) f ≡ suc (cycle_count m (bypass m f))
unfolding cycle_count
cycle_more m f e = omega (arith, pick_true {A = ℕ} (eqb (f m) m) 1 0 (eq-eqb (f m) m e))

pub cycle_same : (m : ℕ) (f : ℕ → ℕ) → f m ≢ m → cycle_count (suc m) f ≡ cycle_count m (bypass m f)
unfolding cycle_count
cycle_same m f e = omega (arith, pick_false {A = ℕ} (eqb (f m) m) 1 0 (ne_eqb (f m) m e))

-- ---- maps that agree

pub cycle_ext : (n : ℕ) (f g : ℕ → ℕ) → ((x : ℕ) → x < n → f x ≡ g x) → cycle_count n f ≡ cycle_count n g
unfolding cycle_count
cycle_ext zero f g e = refl
cycle_ext (suc m) f g e =
    let last = e m (omega arith) in
    let k = cycle_ext m (bypass m f) (bypass m g) (λ x h. rw (e x (omega arith), last)) in
    omega (arith, ap (λ (v : ℕ). pick {A = ℕ} (eqb v m) 1 0) last)

-- where nothing moves, each point is a cycle
pub cycle_still : (n : ℕ) (f : ℕ → ℕ) → ((x : ℕ) → x < n → f x ≡ x) → cycle_count n f ≡ n
unfolding cycle_count
cycle_still zero f e = refl
cycle_still (suc m) f e =
    let last = e m (omega arith) in
    let past : (x : ℕ) → x < m → bypass m f x ≡ x = λ x h.
    let s = e x (omega arith) in
    exchange_other m (f m) (f x) (λ q. omega arith) (λ q. omega arith) ∙ s in
    omega (arith, cycle_more m f last, cycle_still m (bypass m f) past)

-- ---- the mark of a fixed point

pub mark_on : (m : ℕ) → mark m m ≡ 1
mark_on m = rw (eq-eqb m m refl)

pub mark_off : (m x : ℕ) → x ≢ m → mark m x ≡ 0
mark_off m x d = rw (ne_eqb x m d)

pub mark_kept : {n m : ℕ} {f : ℕ → ℕ} → PermutesBelow n f → m < n → f m ≡ m → Kept n f (mark m)
mark_kept {n} {m} {f} p h e z k = elim (ℕ_discrete z m) [
  | yes d ↦ ap (mark m) (ap f d ∙ e ∙ sym d)
  | no d ↦ mark_off m (f z) (λ q. d (p.one z m k h (q ∙ sym e))) ∙ sym (mark_off m z d)
]

pub fixed_smallest : {n m : ℕ} {f : ℕ → ℕ} → PermutesBelow n f → m < n → f m ≡ m → Smallest n f m
fixed_smallest {n} {m} {f} p h e = record {
  label = mark m;
  kept = mark_kept p h e;
  least = λ y k q. elim (ℕ_discrete y m) [ yes d ↦ omega arith | no d ↦ absurd (omega (arith, mark_off m y d, mark_on m)) ];
}

-- ---- labels past the last point

module _ {m : ℕ} {f : ℕ → ℕ} (p : PermutesBelow (suc m) f) where
  same_below : (z : ℕ) → z < m → f z ≢ m → bypass m f z ≡ f z
  same_below z h = bypass_same p m z (omega arith) (omega arith) (λ q. omega arith)

  pub kept_past : (l : ℕ → ℕ) → Kept (suc m) f l → Kept m (bypass m f) l
  kept_past l k z h = elim (ℕ_discrete (f z) m) [
    | yes e ↦ ap l (bypass_on m f z e) ∙ k m (omega arith) ∙ ap l (sym e) ∙ k z (omega arith)
    | no e ↦ ap l (same_below z h e) ∙ k z (omega arith)
  ]

  -- ---- smallest points

  last_alone : Smallest (suc m) f m → f m ≡ m
  last_alone s = omega (arith, p.low m (omega arith), s.least (f m) (p.low m (omega arith)) (s.kept m (omega arith)))

  smallest_past : {x : ℕ} → Smallest (suc m) f x → Smallest m (bypass m f) x
  smallest_past {x} s = record { label = s.label; kept = kept_past s.label s.kept; least = λ y h. s.least y (omega arith) }

  -- the last point takes the label of its image
  smallest_with : {x : ℕ} → x < m → Smallest m (bypass m f) x → Smallest (suc m) f x
  smallest_with {x} h s = record {
    label = more;
    kept = λ z k. elim (ℕ_discrete z m) [
      | yes e ↦ elim (ℕ_discrete (f m) m) [
        | yes d ↦ ap more (ap f e ∙ d ∙ sym e)
        | no d ↦ ap (λ (y : ℕ). more (f y)) e ∙ other (f m) d ∙ sym (ap more e ∙ last)
      ]
      | no e ↦ below z (omega arith) ∙ sym (other z e)
    ];
    least = λ y k q. elim (ℕ_discrete y m) [
      | yes e ↦ omega arith
      | no e ↦ s.least y (omega arith) (sym (other y e) ∙ q ∙ other x (λ d. omega arith))
    ];
  }
    where
      more : ℕ → ℕ
      more y = s.label (pick (eqb y m) (f m) y)

      last : more m ≡ s.label (f m)
      last = ap s.label (pick_true (eqb m m) (f m) m (eq-eqb m m refl))

      other : (y : ℕ) → y ≢ m → more y ≡ s.label y
      other y e = ap s.label (pick_false (eqb y m) (f m) y (ne_eqb y m e))

      below : (z : ℕ) → z < m → more (f z) ≡ s.label z
      below z k = elim (ℕ_discrete (f z) m) [
        | yes e ↦ ap more e ∙ last ∙ ap s.label (sym (bypass_on m f z e)) ∙ s.kept z k
        | no e ↦ other (f z) e ∙ ap s.label (sym (same_below z k e)) ∙ s.kept z k
      ]

-- a test that passes at the smallest points, and at no others, counts the cycles
pub count_smallest : (n : ℕ) (f : ℕ → ℕ) (test : ℕ → Bool) → PermutesBelow n f → ((x : ℕ) → x < n → test x ≡ true → Smallest n f x)
    → ((x : ℕ) → x < n → Smallest n f x → test x ≡ true) → cycle_count n f ≡ count test n
unfolding cycle_count
count_smallest zero f test p to from = refl
count_smallest (suc m) f test p to from =
    let k = count_smallest m (bypass m f) test (bypass_permutes p) (λ x h q. smallest_past p (to x (omega arith) q))
    (λ x h s. from x (omega arith) (smallest_with p h s)) in
    elim (either (test m)) [
      | inl q ↦ omega (arith, cycle_more m f (last_alone p (to m (omega arith) q)), count_yes test m q)
      | inr q ↦ omega (arith, cycle_same m f (λ e. clash (from m (omega arith) (fixed_smallest p (omega arith) e)) q), count_no test m q)
    ]
