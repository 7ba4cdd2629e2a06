-- Laws of Euclid's algorithm with multipliers: `Euclid` holds at the start, after each step, and at the end gives the common divisor.
-- Why: of r0 = -s0 c and r1 = s1 c modulo n, the remainder r0 - q r1 is -(s0 + q s1) c; what divides r1 and the remainder divides r0. The sum
-- r0 s1 + r1 s0 stays n: so the multipliers are at most n, and where one remainder is 0 the other one's part of n is the multiplier of 0.
-- Assumes nothing.
use mathlib.Core.Path.{◌≡◌, sym, ap}
use mathlib.Core.List.{[], ◌∷◌}
use Prim.Native.Nat.{ℕ, zero, suc, ◌+◌, ◌*◌, ◌-◌, ◌/◌, ◌%◌, ◌≤◌, ◌<◌, ◌∣◌}
use native.Mathlib.Omega.{arith}
use native.Mathlib.Nat.{mod-lt, div-add-mod', dvd_refl, dvd-zero, dvd-mod_iff}
use lib.IntN.{pos, ◌+ℤ◌, ◌-ℤ◌}
use Rattle.matrix.proofs.Ring.{con, var, ◌⊕◌, ◌⊙◌, ⊖◌, ring}
use Rattle.congruence.specs.Congruence.{Multiple}
use Rattle.congruence.proofs.Multiple.{mult_as, mult_self, mult_zero, mult-+, mult-*, mult_neg}
use Rattle.congruence.specs.Inner.Common.{Modulus, CommonOf}

-- r0 and r1 are -s0 c and s1 c modulo n, and what divides both divides n and c
pub record Euclid (n c r0 s0 r1 s1 : ℕ) : Type 0 where
  pub modulus : Modulus n
  pub most0 : r0 ≤ n
  pub most1 : r1 ≤ n
  pub low0 : s0 ≤ n
  pub low1 : s1 ≤ n
  pub sum : r0 * s1 + r1 * s0 ≡ n
  pub is0 : Multiple n (pos (s0 * c) +ℤ pos r0)
  pub is1 : Multiple n (pos (s1 * c) -ℤ pos r1)
  pub divisors : (e : ℕ) → e ∣ r0 → e ∣ r1 → (e ∣ n) × (e ∣ c)

pub euclid_start : {n c : ℕ} → Modulus n → c < n → Euclid n c n 0 c 1
euclid_start {n} {c} m h = record {
  modulus = m;
  most0 = omega arith;
  most1 = omega arith;
  low0 = omega arith;
  low1 = m.some;
  sum = omega arith;
  is0 = mult_as (ring (pos n ∷ pos c ∷ []) (var 0) (con (pos 0) ⊙ var 1 ⊕ var 0) tt) mult_self;
  is1 = mult_as (ring (pos c ∷ []) (con (pos 0)) (con (pos 1) ⊙ var 0 ⊕ ⊖ var 0) tt) mult_zero;
  divisors = λ e d0 d1. (d0, d1);
}

-- ---- a step: r is the remainder of the larger one, q the quotient

module _ (n c s0 s1 q r : ℕ) where
  sum0 : (r0 r1 : ℕ) → q * r1 + r ≡ r0 → r0 * s1 + r1 * s0 ≡ n → r * s1 + r1 * (s0 + q * s1) ≡ n
  sum0 r0 r1 e h = sum_of r1 (rw (← e) at h)
    where
      sum_of : (r1 : ℕ) → (q * r1 + r) * s1 + r1 * s0 ≡ n → r * s1 + r1 * (s0 + q * s1) ≡ n
      sum_of r1 h = omega arith

  sum1 : (r0 r1 : ℕ) → q * r0 + r ≡ r1 → r0 * s1 + r1 * s0 ≡ n → r0 * (s1 + q * s0) + r * s0 ≡ n
  sum1 r0 r1 e h = sum_of r0 (rw (← e) at h)
    where
      sum_of : (r0 : ℕ) → r0 * s1 + (q * r0 + r) * s0 ≡ n → r0 * (s1 + q * s0) + r * s0 ≡ n
      sum_of r0 h = omega arith

  next0 : (r0 r1 : ℕ) → q * r1 + r ≡ r0 → Multiple n (pos (s0 * c) +ℤ pos r0) → Multiple n (pos (s1 * c) -ℤ pos r1)
      → Multiple n (pos ((s0 + q * s1) * c) +ℤ pos r)
  next0 r0 r1 e h k = mult_as
      (ring (pos c ∷ pos s0 ∷ pos s1 ∷ pos q ∷ pos r ∷ pos r1 ∷ [])
      ((var 1 ⊙ var 0 ⊕ (var 3 ⊙ var 5 ⊕ var 4)) ⊕ var 3 ⊙ (var 2 ⊙ var 0 ⊕ ⊖ var 5)) ((var 1 ⊕ var 3 ⊙ var 2) ⊙ var 0 ⊕ var 4) tt)
      (mult-+ (mult_as (ap (λ (z : ℕ). pos (s0 * c) +ℤ pos z) (sym e)) h) (mult-* (pos q) k))

  next1 : (r0 r1 : ℕ) → q * r0 + r ≡ r1 → Multiple n (pos (s0 * c) +ℤ pos r0) → Multiple n (pos (s1 * c) -ℤ pos r1)
      → Multiple n (pos ((s1 + q * s0) * c) -ℤ pos r)
  next1 r0 r1 e h k = mult_as
      (ring (pos c ∷ pos s0 ∷ pos s1 ∷ pos q ∷ pos r ∷ pos r0 ∷ [])
      (var 3 ⊙ (var 1 ⊙ var 0 ⊕ var 5) ⊕ (var 2 ⊙ var 0 ⊕ ⊖ (var 3 ⊙ var 5 ⊕ var 4))) ((var 2 ⊕ var 3 ⊙ var 1) ⊙ var 0 ⊕ ⊖ var 4) tt)
      (mult-+ (mult-* (pos q) h) (mult_as (ap (λ (z : ℕ). pos (s1 * c) -ℤ pos z) (sym e)) k))

-- a factor of what is at most n
factor_low : (r s x n : ℕ) → 0 < r → x + r * s ≡ n → s ≤ n
factor_low zero s x n h e = let no : ⊥ = omega arith in absurd no
factor_low (suc r) s x n h e = omega arith

pub euclid_0 : {n c r0 s0 r1 s1 : ℕ} → Euclid n c r0 s0 r1 s1 → 0 < r1 → Euclid n c (r0 % r1) (s0 + r0 / r1 * s1) r1 s1
euclid_0 {n} {c} {r0} {s0} {r1} {s1} h l =
    let q = r0 / r1 in
    let r = r0 % r1 in
    let e = div-add-mod' r0 r1 in
    let sum = sum0 n c s0 s1 q r r0 r1 e h.sum in
    let r-low = mod-lt r0 l in
    record {
      modulus = h.modulus;
      most0 = omega (arith, h.most1);
      most1 = h.most1;
      low0 = factor_low r1 (s0 + q * s1) (r * s1) n l sum;
      low1 = h.low1;
      sum = sum;
      is0 = next0 n c s0 s1 q r r0 r1 e h.is0 h.is1;
      is1 = h.is1;
      divisors = λ d d0 d1. h.divisors d ((dvd-mod_iff d d1).0 d0) d1;
    }

pub euclid_1 : {n c r0 s0 r1 s1 : ℕ} → Euclid n c r0 s0 r1 s1 → 0 < r0 → Euclid n c r0 s0 (r1 % r0) (s1 + r1 / r0 * s0)
euclid_1 {n} {c} {r0} {s0} {r1} {s1} h l =
    let q = r1 / r0 in
    let r = r1 % r0 in
    let e = div-add-mod' r1 r0 in
    let sum = sum1 n c s0 s1 q r r0 r1 e h.sum in
    let r-low = mod-lt r1 l in
    let turned : r * s0 + r0 * (s1 + q * s0) ≡ n = omega arith in
    record {
      modulus = h.modulus;
      most0 = h.most0;
      most1 = omega (arith, h.most0);
      low0 = h.low0;
      low1 = factor_low r0 (s1 + q * s0) (r * s0) n l turned;
      sum = sum;
      is0 = h.is0;
      is1 = next1 n c s0 s1 q r r0 r1 e h.is0 h.is1;
      divisors = λ d d0 d1. h.divisors d d0 ((dvd-mod_iff d d0).0 d1);
    }

-- ---- the end

pub euclid_end_0 : {n c r0 s0 r1 s1 : ℕ} → Euclid n c r0 s0 r1 s1 → r0 ≡ 0 → 0 < r1 → CommonOf n c (record { g = r1; s = s1; h = s0 })
euclid_end_0 {n} {c} {r0} {s0} {r1} {s1} h e l =
    let d = h.divisors r1 (rw e (dvd-zero r1)) (dvd_refl r1) in
    record { some = l; low = h.low1; part = part r0 r1 s0 s1 e h.sum; divides_n = d.0; divides_c = d.1; is = h.is1 }
  where
    part : (r0 r1 s0 s1 : ℕ) → r0 ≡ 0 → r0 * s1 + r1 * s0 ≡ n → s0 * r1 ≡ n
    part r0 r1 s0 s1 e h = let k : 0 * s1 + r1 * s0 ≡ n = rw e at h in omega arith

pub euclid_end_1 : {n c r0 s0 r1 s1 : ℕ} → Euclid n c r0 s0 r1 s1 → r1 ≡ 0 → 0 < r0 → CommonOf n c (record { g = r0; s = n - s0; h = s1 })
euclid_end_1 {n} {c} {r0} {s0} {r1} {s1} h e l =
    let d = h.divisors r0 (dvd_refl r0) (rw e (dvd-zero r0)) in
    record {
      some = l;
      low = omega arith;
      part = part r0 r1 s0 s1 e h.sum;
      divides_n = d.0;
      divides_c = d.1;
      is = opposite (n - s0) s0 r0 (omega (arith, h.low0)) h.is0;
    }
  where
    part : (r0 r1 s0 s1 : ℕ) → r1 ≡ 0 → r0 * s1 + r1 * s0 ≡ n → s1 * r0 ≡ n
    part r0 r1 s0 s1 e h = let k : r0 * s1 + 0 * s0 ≡ n = rw e at h in omega arith

    opposite : (t s r : ℕ) → t + s ≡ n → Multiple n (pos (s * c) +ℤ pos r) → Multiple n (pos (t * c) -ℤ pos r)
    opposite t s r e h = mult_as
        (ring (pos t ∷ pos s ∷ pos r ∷ pos c ∷ []) (var 3 ⊙ (var 0 ⊕ var 1) ⊕ ⊖ (var 1 ⊙ var 3 ⊕ var 2)) (var 0 ⊙ var 3 ⊕ ⊖ var 2) tt)
        (mult-+ (mult-* (pos c) (mult_as (ap pos (sym e)) mult_self)) (mult_neg h))
