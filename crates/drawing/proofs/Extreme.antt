-- THE LEAST AND THE GREATEST of n finite floats, n at least 1: one of them (`least_one`, `greatest_one`), and at most, or at least, each of them
-- (`least_below`, `greatest_above`). Assumes nothing.
use mathlib.Core.Path.{◌≡◌, refl}
use mathlib.Core.Bool.{Bool, true, false, cond}
use Prim.Native.Nat.{ℕ, zero, suc, ◌≤◌, ◌<◌}
use native.Mathlib.Omega.{arith}
use native.Mathlib.Decide.{dec_lt}
use lib.Dec.{T}
use lib.Ieee.{Float, lt, le}
use lib.Ieee.Scale.{finite}
use Rattle.drawing.specs.Extreme.{lesser, greater, least_of, greatest_of, OneOf}
use Rattle.drawing.proofs.Order.{at_most, less, itself, le_through}

-- ---- of two

lesser_by : (a b : Float) (P : Float → Type 0) → (lt b a ≡ true → P b) → (lt b a ≡ false → P a) → P (lesser a b)
lesser_by a b P p q = go (lt b a) refl
  where
    go : (t : Bool) → lt b a ≡ t → P (cond t b a)
    go true e = p e
    go false e = q e

greater_by : (a b : Float) (P : Float → Type 0) → (lt a b ≡ true → P b) → (lt a b ≡ false → P a) → P (greater a b)
greater_by a b P p q = go (lt a b) refl
  where
    go : (t : Bool) → lt a b ≡ t → P (cond t b a)
    go true e = p e
    go false e = q e

module _ (a b : Float) (A : T (finite a)) (B : T (finite b)) where
  lesser_first : T (le (lesser a b) a)
  lesser_first = lesser_by a b (λ (x : Float). T (le x a)) (λ e. less b a e) (λ e. itself a A)

  lesser_second : T (le (lesser a b) b)
  lesser_second = lesser_by a b (λ (x : Float). T (le x b)) (λ e. itself b B) (λ e. at_most a b A B e)

  greater_first : T (le a (greater a b))
  greater_first = greater_by a b (λ (x : Float). T (le a x)) (λ e. less a b e) (λ e. itself a A)

  greater_second : T (le b (greater a b))
  greater_second = greater_by a b (λ (x : Float). T (le b x)) (λ e. itself b B) (λ e. at_most b a B A e)

-- ---- of n

one_more : (f : ℕ → Float) (n : ℕ) (x : Float) → OneOf f n x → OneOf f (suc n) x
one_more f n x h = record { at = h.at; on = let l = h.on in omega arith; is = h.is }

-- what holds of each below n, and of n, holds of each below n + 1
each_more : (P : ℕ → Type 0) (n : ℕ) → ((i : ℕ) → i < n → P i) → P n → (i : ℕ) → i < suc n → P i
each_more P n h p i l = elim (dec_lt i n) [ yes k ↦ h i k | no k ↦ let e : i ≡ n = omega arith in rw e p ]

module _ (f : ℕ → Float) where
  pub least_one : (n : ℕ) → OneOf f (suc n) (least_of f (suc n))
  unfolding least_of
  least_one zero = lesser_by (f 0) (f 0) (OneOf f 1) (λ e. record { at = 0; on = omega arith; is = refl }) (λ e. record { at = 0; on = omega arith; is = refl })
  least_one (suc n) =
      lesser_by (least_of f (suc n)) (f (suc n)) (OneOf f (suc (suc n))) (λ e. record { at = suc n; on = omega arith; is = refl })
      (λ e. one_more f (suc n) (least_of f (suc n)) (least_one n))

  pub greatest_one : (n : ℕ) → OneOf f (suc n) (greatest_of f (suc n))
  unfolding greatest_of
  greatest_one zero = greater_by (f 0) (f 0) (OneOf f 1) (λ e. record { at = 0; on = omega arith; is = refl })
      (λ e. record { at = 0; on = omega arith; is = refl })
  greatest_one (suc n) =
      greater_by (greatest_of f (suc n)) (f (suc n)) (OneOf f (suc (suc n))) (λ e. record { at = suc n; on = omega arith; is = refl })
      (λ e. one_more f (suc n) (greatest_of f (suc n)) (greatest_one n))

  module _ (m : ℕ) (all : (i : ℕ) → i ≤ m → T (finite (f i))) where
    pub least_finite : (n : ℕ) → n ≤ suc m → T (finite (least_of f n))
    unfolding least_of
    least_finite zero h = all 0 (omega arith)
    least_finite (suc n) h =
        lesser_by (least_of f n) (f n) (λ (x : Float). T (finite x)) (λ e. all n (omega arith)) (λ e. least_finite n (omega arith))

    pub greatest_finite : (n : ℕ) → n ≤ suc m → T (finite (greatest_of f n))
    unfolding greatest_of
    greatest_finite zero h = all 0 (omega arith)
    greatest_finite (suc n) h =
        greater_by (greatest_of f n) (f n) (λ (x : Float). T (finite x)) (λ e. all n (omega arith)) (λ e. greatest_finite n (omega arith))

    pub least_below : (n : ℕ) → n ≤ suc m → (i : ℕ) → i < n → T (le (least_of f n) (f i))
    unfolding least_of
    least_below zero h = λ i l. absurd (omega arith)
    least_below (suc n) h =
        let low = least_of f n in
        let A = least_finite n (omega arith) in
        let B = all n (omega arith) in
        let N = least_finite (suc n) h in
        each_more (λ (i : ℕ). T (le (lesser low (f n)) (f i))) n
        (λ i l. le_through (lesser low (f n)) low (f i) N A (all i (omega arith)) (lesser_first low (f n) A B) (least_below n (omega arith) i l))
        (lesser_second low (f n) A B)

    pub greatest_above : (n : ℕ) → n ≤ suc m → (i : ℕ) → i < n → T (le (f i) (greatest_of f n))
    unfolding greatest_of
    greatest_above zero h = λ i l. absurd (omega arith)
    greatest_above (suc n) h =
        let high = greatest_of f n in
        let A = greatest_finite n (omega arith) in
        let B = all n (omega arith) in
        let N = greatest_finite (suc n) h in
        each_more (λ (i : ℕ). T (le (f i) (greater high (f n)))) n
        (λ i l. le_through (f i) high (greater high (f n)) (all i (omega arith)) A N (greatest_above n (omega arith) i l) (greater_first high (f n) A B))
        (greater_second high (f n) A B)
