-- Laws of the index of Γ0(n), prime by prime: `Factoring` holds at the start, for a larger p, with one more prime, and at the end gives the index.
-- Why: no number from 2 to p - 1 divides what is left of n, so a p that does is prime; one more prime turns index0 m into index0 (m p), by
-- the law `index0_times`; and p + 1 is at most p p, so the index stays at most m m.
-- Assumes nothing.
use mathlib.Core.Path.{◌≡◌, sym, ◌∙◌, ap}
use Prim.Native.Nat.{ℕ, zero, suc, ◌+◌, ◌*◌, ◌/◌, ◌%◌, ◌≤◌, ◌<◌, ◌∣◌}
use native.Mathlib.Omega.{arith}
use native.Mathlib.Decide.{dec_lt, ℕ_discrete}
use native.Mathlib.Nat.{dvd_refl, dvd_trans, dvd-mul_right, le_of_dvd, mod-eq-zero_of_dvd, dvd_of_mod-eq-zero, div-mul_cancel}
use native.Mathlib.Nat.{mul-le-mul, mul-le-mul_left}
use borrow.Author.Tests.{eq-eqb, ne_eqb}
use Rattle.basics.specs.Choice.{pick}
use Rattle.congruence.specs.Index.{divides, least_divisor, index0}
use Rattle.congruence.proofs.Prime.{Least}
use Rattle.congruence.proofs.Factor.{lowest_is}
use Rattle.congruence.proofs.Index0.{index0_one, index0_times}
use Rattle.congruence.specs.Inner.Common.{Modulus}

-- n is met times rest, index belongs to met, and no number from 2 to p - 1 divides rest
pub record Factoring (n rest met index p : ℕ) : Type 0 where
  pub modulus : Modulus n
  pub is : met * rest ≡ n
  pub index_is_lem : index ≡ index0 met
  pub most : index ≤ met * met
  pub big : 1 < p
  pub clear : (e : ℕ) → 1 < e → e < p → e ∣ rest → ⊥

-- ---- sizes

record Parts (n m r : ℕ) : Type 0 where
  some_m : 0 < m
  some_r : 0 < r
  low_m : m ≤ n
  low_r : r ≤ n

parts : (n m r : ℕ) → m * r ≡ n → 0 < n → Parts n m r
parts n zero r e h = let no : ⊥ = omega arith in absurd no
parts n (suc m) zero e h = let no : ⊥ = omega arith in absurd no
parts n (suc m) (suc r) e h = record { some_m = omega arith; some_r = omega arith; low_m = omega arith; low_r = omega arith }

sizes : {n rest met index p : ℕ} → Factoring n rest met index p → Parts n met rest
sizes {n} {rest} {met} h = parts n met rest h.is h.modulus.some

-- what is left has a least divisor, and that is p or above
p_low : {n rest met index p : ℕ} → Factoring n rest met index p → 1 < rest → p ≤ rest
p_low {n} {rest} {met} {index} {p} h l =
    let d = lowest_is rest l in
    let k = le_of_dvd {m = least_divisor rest} {n = rest} (omega arith) d.divisor in
    elim (dec_lt (least_divisor rest) p) [ yes z ↦ absurd (h.clear (least_divisor rest) d.big z d.divisor) | no z ↦ omega arith ]

pub p_fits : {n rest met index p : ℕ} → Factoring n rest met index p → 1 < rest → p ≤ 1000
p_fits h l = omega (arith, p_low h l, (sizes h).low_r, h.modulus.most)

-- ---- the start, and a larger p

pub factoring_start : {n : ℕ} → Modulus n → Factoring n n 1 1 2
factoring_start {n} m = record {
  modulus = m;
  is = omega arith;
  index_is_lem = sym index0_one;
  most = omega arith;
  big = omega arith;
  clear = λ e h l d. omega arith;
}

pub factoring_next : {n rest met index p : ℕ} → Factoring n rest met index p → ¬ (rest % p ≡ 0) → Factoring n rest met index (p + 1)
factoring_next {n} {rest} {met} {index} {p} h ne = record {
  modulus = h.modulus;
  is = h.is;
  index_is_lem = h.index_is_lem;
  most = h.most;
  big = omega (arith, h.big);
  clear = λ e b l d. elim (ℕ_discrete e p) [
    | yes z ↦ ne (mod-eq-zero_of_dvd p (rw z at d))
    | no z ↦ h.clear e b (omega arith) d
  ];
}

-- ---- one more prime

prime_is : {n rest met index p : ℕ} → Factoring n rest met index p → rest % p ≡ 0 → Least p p
prime_is {n} {rest} {met} {index} {p} h e = record {
  big = h.big;
  divisor = dvd_refl p;
  least = λ d b l m. h.clear d b l (dvd_trans d m (dvd_of_mod-eq-zero p e));
}

more_is : {n rest met index p : ℕ} → Factoring n rest met index p → rest % p ≡ 0 → met * p * (rest / p) ≡ n
more_is {n} {rest} {met} {index} {p} h e = omega (arith, ap (λ (x : ℕ). met * x) (div-mul_cancel p (dvd_of_mod-eq-zero p e)), h.is)

pub more_low : {n rest met index p : ℕ} → Factoring n rest met index p → rest % p ≡ 0 → met * p ≤ n
more_low {n} {rest} {met} {index} {p} h e = (parts n (met * p) (rest / p) (more_is h e) h.modulus.some).low_m

more_most : {n rest met index p : ℕ} → Factoring n rest met index p → index * (p + 1) ≤ met * p * (met * p)
more_most {n} {rest} {met} {index} {p} h =
    let square : p * 2 ≤ p * p = mul-le-mul_left p h.big in
    let small : p + 1 ≤ p * p = omega (arith, h.big) in
    let all : index * (p + 1) ≤ met * met * (p * p) = mul-le-mul h.most small in
    omega arith

-- no overflow
pub more_fits : {n rest met index p : ℕ} → Factoring n rest met index p → rest % p ≡ 0 → index * (p + 1) ≤ 1000000
more_fits {n} {rest} {met} {index} {p} h e =
    let low : met * p ≤ 1000 = omega (arith, more_low h e, h.modulus.most) in
    let square : met * p * (met * p) ≤ 1000 * 1000 = mul-le-mul low low in
    omega (arith, more_most h)

-- what is left gets less
pub rest_less : {n rest met index p : ℕ} → Factoring n rest met index p → 1 < rest → rest % p ≡ 0 → rest / p < rest
rest_less {n} {rest} {met} {index} {p} h l e =
    let whole = div-mul_cancel p (dvd_of_mod-eq-zero p e) in
    let some = (parts n (met * p) (rest / p) (more_is h e) h.modulus.some).some_r in
    let double : rest / p * 2 ≤ rest / p * p = mul-le-mul_left (rest / p) h.big in
    omega arith

more : {n rest met index p : ℕ} (index' : ℕ) → Factoring n rest met index p → rest % p ≡ 0
    → index' ≡ pick (divides p met) p (suc p) * index → index' ≤ index * (p + 1) → Factoring n (rest / p) (met * p) index' p
more {n} {rest} {met} {index} {p} index' h e by low =
    let whole = div-mul_cancel p (dvd_of_mod-eq-zero p e) in
    record {
      modulus = h.modulus;
      is = more_is h e;
      index_is_lem = by ∙ ap (λ (x : ℕ). pick (divides p met) p (suc p) * x) h.index_is_lem ∙ sym (index0_times met p (sizes h).some_m (prime_is h e));
      most = omega (arith, more_most h);
      big = h.big;
      clear = λ d b l m. h.clear d b l (rw whole at (dvd_trans d m (dvd-mul_right (rest / p) p)));
    }

pub more_new : {n rest met index index' p : ℕ} → Factoring n rest met index p → rest % p ≡ 0 → ¬ (met % p ≡ 0) → index' ≡ index * (p + 1)
    → Factoring n (rest / p) (met * p) index' p
more_new {n} {rest} {met} {index} {index'} {p} h e ne z = more index' h e (rw (ne_eqb (met % p) 0 ne) (omega arith)) (omega arith)

pub more_old : {n rest met index index' p : ℕ} → Factoring n rest met index p → rest % p ≡ 0 → met % p ≡ 0 → index' ≡ index * p
    → Factoring n (rest / p) (met * p) index' p
more_old {n} {rest} {met} {index} {index'} {p} h e d z = more index' h e (rw (eq-eqb (met % p) 0 d) (omega arith)) (omega arith)

-- ---- the end

pub factoring_end : {n rest met index p : ℕ} → Factoring n rest met index p → rest ≤ 1 → (index ≡ index0 n) × (index ≤ n * n)
factoring_end {n} {rest} {met} {index} {p} h l =
    let one : rest ≡ 1 = omega (arith, (sizes h).some_r) in
    let all : met ≡ n = sym (omega arith) ∙ ap (λ (x : ℕ). met * x) (sym one) ∙ h.is in
    (h.index_is_lem ∙ ap index0 all, rw all at h.most)
