-- The index of Γ0(n) is `index0 n`, for every n from 1 on: `index0_is`; and the rule by which it can be computed fast, `index0_splits`.
-- Why: n is 1 or m p for its least prime p. The step from Γ0(m) to Γ0(m p) has p matrices if p divides m, and p + 1 if not; the product over
-- the prime factors stays or gains the factor (1 + 1/p), and p turns m into m p.
-- Assumes nothing.
use mathlib.Core.Path.{◌≡◌, sym, ◌∙◌, ap}
use mathlib.Core.Logic.{inl, inr}
use Prim.Native.Nat.{ℕ, zero, suc, ◌*◌, ◌/◌, ◌≤◌, ◌<◌, ◌∣◌}
use native.Mathlib.Omega.{arith}
use native.Mathlib.Decide.{dec_dvd, ℕ_discrete}
use native.Mathlib.Nat.{mul-pos, mul-le-mul_left, le_of_dvd, div-mul_cancel, div-eq_of_eq-mul_left}
use lib.IntN.{ℤ, pos}
use Rattle.matrix.specs.Matrix.{◌⊗◌, 𝟙, adj}
use Rattle.matrix.proofs.Matrix.{det_𝟙}
use Rattle.matrix.proofs.Integer.{*-one}
use Rattle.basics.specs.Choice.{pick}
use Rattle.numbering.proofs.Find.{test, true_false}
use Rattle.congruence.specs.Congruence.{Multiple, Gamma0}
use Rattle.right_cosets.specs.Transversal.{Everything, Index}
use Rattle.congruence.specs.Index.{divides, least_divisor, is_factor, over_primes, index0}
use Rattle.congruence.proofs.Multiple.{mult_part}
use Rattle.congruence.proofs.Conditions.{gamma0}
use Rattle.right_cosets.proofs.Transversal.{index_tower, one_length, everything}
use Rattle.congruence.proofs.Prime.{Least, multiple_or_inverse}
use Rattle.congruence.proofs.Step0.{lower, old, news, new}
use Rattle.congruence.proofs.Factor.{dvd_mult, mult_dvd, divides_true, dvd_divides, lowest_is, lowest_prime, factor_other, factor_new, factor_old}
use Rattle.congruence.proofs.Factor.{factor_none, factor_one, over_none, over_same, over_more, over_some}

-- ---- Γ0(1) is everything

all_one : (z : ℤ) → Multiple 1 z
all_one z = record { times = z; is = sym (*-one z) }

first : Index Everything (Gamma0 1) 1
first = record {
  rep = λ j. 𝟙;
  transversal = record {
    member = λ j h. record { unit = det_𝟙; meets = tt };
    place = λ m h. record { at = 0; low = omega arith; hit = all_one (m ⊗ adj 𝟙).c; only = λ j l c. omega arith };
  };
}

-- ---- one prime more

pub step_old : (m p : ℕ) → 0 < m → 0 < p → p ∣ m → {i : ℕ} → Index Everything (Gamma0 m) i → Index Everything (Gamma0 (m * p)) (p * i)
step_old m p some big d i = index_tower everything (gamma0 m) (λ x h. tt) (λ x h. mult_part m p h) i
    (record { rep = lower m; transversal = old m p some big (dvd_mult d) })

pub step_new : (m p : ℕ) → 0 < m → Least p p → (p ∣ m → ⊥) → {i : ℕ} → Index Everything (Gamma0 m) i → Index Everything (Gamma0 (m * p)) (suc p * i)
step_new m p some prime d i = elim (multiple_or_inverse p prime (pos m)) [
  | inl h ↦ absurd (d (mult_dvd p m h))
  | inr e ↦ index_tower everything (gamma0 m) (λ x h. tt) (λ x h. mult_part m p h) i
      (record { rep = news m p some prime e; transversal = new m p some prime e })
]

-- ---- n as its least prime and the rest

record Split (n : ℕ) : Type 0 where
  p : ℕ
  m : ℕ
  prime : Least p p
  is : m * p ≡ n
  m_some : 0 < m
  m_low : m < n
  p_low : p ≤ n

positive_left : (m p n : ℕ) → m * p ≡ n → 0 < n → 0 < m
positive_left zero p n e h = let no : ⊥ = omega arith in absurd no
positive_left (suc m) p n e h = omega arith

split : (n : ℕ) → 1 < n → Split n
split n h =
    let p = least_divisor n in
    let l = lowest_is n h in
    let m = n / p in
    let e = div-mul_cancel p l.divisor in
    let some = positive_left m p n e (omega arith) in
    record {
      p = p;
      m = m;
      prime = lowest_prime l;
      is = e;
      m_some = some;
      m_low = omega (arith, mul-le-mul_left m l.big);
      p_low = le_of_dvd (omega arith) l.divisor;
    }

-- ---- the index, with the primes below b

-- i matrices are a transversal of Γ0(n), and i times the product of the prime factors is n times that of their successors
record Counted (b n : ℕ) : Type 0 where
  count : ℕ
  index : Index Everything (Gamma0 n) count
  formula : count * over_primes (λ (q : ℕ). q) n b ≡ n * over_primes suc n b

module _ (b : ℕ) where
  abbrev denominator : ℕ → ℕ
  denominator n = over_primes (λ (q : ℕ). q) n b

  abbrev numerator : ℕ → ℕ
  numerator n = over_primes suc n b

  counted_one : Counted b 1
  counted_one = record { count = 1; index = first; formula = rw (over_none (λ (q : ℕ). q) 1 b factor_one, over_none suc 1 b factor_one) }

  counted_step : (m p : ℕ) → 0 < m → Least p p → p < b → Counted b m → Counted b (m * p)
  counted_step m p some prime low c =
      let i = c.count in
      elim (dec_dvd p m) [
        | yes d ↦ record {
          count = p * i;
          index = step_old m p some (omega (arith, prime.big)) d c.index;
          formula =
              let same : (q : ℕ) → q < b → is_factor (m * p) q ≡ is_factor m q = λ q l. factor_old m p prime d q in
              rw (over_same (λ (q : ℕ). q) (m * p) m b same, over_same suc (m * p) m b same)
              (omega (arith, ap (λ (x : ℕ). p * x) c.formula));
        }
        | no d ↦ record {
          count = suc p * i;
          index = step_new m p some prime d c.index;
          formula =
              let other = factor_other m p prime in
              let yes-n = factor_new m p prime in
              let no-m = factor_none m p d in
              rw (over_more (λ (q : ℕ). q) (m * p) m p b low other yes-n no-m, over_more suc (m * p) m p b low other yes-n no-m)
              (omega (arith, ap (λ (x : ℕ). p * suc p * x) c.formula));
        }
      ]

  counted_next : (f n : ℕ) → ((m : ℕ) → m ≤ f → 0 < m → m < b → Counted b m) → n ≤ suc f → 0 < n → n < b → Counted b n
  counted_next f n smaller h k l = elim (ℕ_discrete n 1) [
    | yes e ↦ rw e counted_one
    | no e ↦
        let s = split n (omega arith) in
        let c = smaller s.m (omega (arith, s.m_low)) s.m_some (omega (arith, s.m_low)) in
        rw s.is at (counted_step s.m s.p s.m_some s.prime (omega (arith, s.p_low)) c)
  ]

  counted : (f n : ℕ) → n ≤ f → 0 < n → n < b → Counted b n
  counted zero n h k l = let no : ⊥ = omega arith in absurd no
  counted (suc f) n h k l = counted_next f n (counted f) h k l

-- ---- the index

pub index0_is : (n : ℕ) → 0 < n → Index Everything (Gamma0 n) (index0 n)
index0_is n h =
    let c = counted (suc n) n n (omega arith) h (omega arith) in
    let some = over_some (λ (q : ℕ). q) n (suc n) (λ q k. omega (arith, k.big)) in
    rw (div-eq_of_eq-mul_left some (sym c.formula)) c.index

-- the division leaves no rest
pub index0_exact : (n : ℕ) → 0 < n → index0 n * over_primes (λ (q : ℕ). q) n (suc n) ≡ n * over_primes suc n (suc n)
index0_exact n h =
    let c = counted (suc n) n n (omega arith) h (omega arith) in
    let some = over_some (λ (q : ℕ). q) n (suc n) (λ q k. omega (arith, k.big)) in
    rw (div-eq_of_eq-mul_left some (sym c.formula)) c.formula

pub index0_unique : (n : ℕ) → 0 < n → {i : ℕ} → Index Everything (Gamma0 n) i → index0 n ≡ i
index0_unique n h i = one_length (gamma0 n) (index0_is n h).transversal i.transversal

pub index0_one : index0 1 ≡ 1
index0_one = index0_unique 1 (omega arith) first

-- one prime more: p divides m, or it doesn't
pub index0_times : (m p : ℕ) → 0 < m → Least p p → index0 (m * p) ≡ pick (divides p m) p (suc p) * index0 m
index0_times m p h prime =
    let i = index0_is m h in
    let some : 0 < m * p = mul-pos h (omega (arith, prime.big)) in
    elim (test (divides p m)) [
      | inl e ↦ rw e (index0_unique (m * p) some (step_old m p h (omega (arith, prime.big)) (divides_true p m e) i))
      | inr e ↦ rw e (index0_unique (m * p) some (step_new m p h prime (λ d. true_false (dvd_divides p m d) e) i))
    ]

-- the least prime p of n split off
pub index0_splits : (n : ℕ) → 1 < n → let p = least_divisor n in let m = n / p in index0 n ≡ pick (divides p m) p (suc p) * index0 m
index0_splits n h =
    let l = lowest_is n h in
    let e = div-mul_cancel (least_divisor n) l.divisor in
    ap index0 (sym e) ∙ index0_times (n / least_divisor n) (least_divisor n) (positive_left (n / least_divisor n) (least_divisor n) n e (omega arith))
    (lowest_prime l)
