-- Laws of the prime factors of a number, and of products over them.
-- In order: the search for the least divisor; primes; the prime factors of m and of m p, for a prime p; products over the prime factors.
-- Assumes nothing.
use mathlib.Core.Path.{◌≡◌, refl, sym, ◌∙◌, ap}
use mathlib.Core.Logic.{inl, inr}
use mathlib.Core.Bool.{Bool, true, false}
use Prim.Native.Nat.{ℕ, zero, suc, ◌+◌, ◌*◌, ◌/◌, ◌%◌, ◌≤◌, ◌<◌, ◌∣◌}
use native.Mathlib.Omega.{arith}
use native.Mathlib.Decide.{dec_lt, ℕ_discrete}
use native.Mathlib.Nat.{dvd_refl, dvd_trans, dvd-mul_left, dvd-mul_right, le_of_dvd, mod-eq-zero_of_dvd, dvd_of_mod-eq-zero, div-mul_cancel, mul_assoc, mul-pos}
use lib.IntN.{pos, nat_abs}
use lib.Dec.{ltb}
use borrow.Author.Tests.{eqb-true, ltb-true, lt-ltb, eq-eqb}
use Rattle.matrix.proofs.Integer.{abs-*}
use Rattle.numbering.proofs.Find.{test, true_false, none_below_lem}
use Rattle.congruence.specs.Congruence.{Multiple}
use Rattle.congruence.specs.Index.{divides, divisor_from, least_divisor, is_prime, is_factor, over_primes}
use Rattle.congruence.proofs.Prime.{Least, euclid}

-- ---- divisors, as numbers and as integers

pub dvd_mult : {d n : ℕ} → d ∣ n → Multiple d (pos n)
dvd_mult {d} {n} h = record { times = pos (n / d); is = ap pos (sym (div-mul_cancel d h)) }

pub mult_dvd : (d n : ℕ) → Multiple d (pos n) → d ∣ n
mult_dvd d n h = let e : n ≡ nat_abs h.times * d = ap nat_abs h.is ∙ abs-* h.times (pos d) in rw e (dvd-mul_left d (nat_abs h.times))

pub divides_true : (d n : ℕ) → divides d n ≡ true → d ∣ n
divides_true d n e = dvd_of_mod-eq-zero d (eqb-true (n % d) 0 e)

pub dvd_divides : (d n : ℕ) → d ∣ n → divides d n ≡ true
dvd_divides d n h = eq-eqb (n % d) 0 (mod-eq-zero_of_dvd d h)

-- ---- the least divisor

record Seeks (k d n s : ℕ) : Type 0 where
  from : d ≤ s
  none : (e : ℕ) → d ≤ e → e < s → e ∣ n → ⊥
  hit : s < d + k → s ∣ n

seek_is : (k d n : ℕ) → Seeks k d n (divisor_from k d n)
unfolding divisor_from
seek_is zero d n = record { from = omega arith; none = λ e h l m. omega arith; hit = λ h. let no : ⊥ = omega arith in absurd no }
seek_is (suc k) d n = let r = seek_is k (suc d) n in elim (test (divides d n)) [
  | inl q ↦ rw (divisor_from, q) (record { from = omega arith; none = λ e h l m. omega arith; hit = λ h. divides_true d n q })
  | inr q ↦ rw (divisor_from, q) (record {
    from = omega (arith, r.from);
    none = λ e h l m. elim (ℕ_discrete e d) [
      | yes z ↦ true_false (dvd_divides d n (rw z at m)) q
      | no z ↦ r.none e (omega arith) l m
    ];
    hit = λ h. r.hit (omega arith);
  })
]

pub lowest_is : (n : ℕ) → 1 < n → Least n (least_divisor n)
lowest_is n h =
    let r = seek_is n 2 n in
    let s = least_divisor n in
    let low : s ≤ n = elim (dec_lt n s) [ yes l ↦ absurd (r.none n h l (dvd_refl n)) | no l ↦ omega arith ] in
    record { big = r.from; divisor = r.hit (omega arith); least = r.none }

pub lowest_prime : {n p : ℕ} → Least n p → Least p p
lowest_prime {n} {p} h = record { big = h.big; divisor = dvd_refl p; least = λ e k l m. h.least e k l (dvd_trans e m h.divisor) }

prime_lowest : (q : ℕ) → Least q q → least_divisor q ≡ q
prime_lowest q h =
    let r = lowest_is q h.big in
    let low = le_of_dvd {m = least_divisor q} {n = q} (omega (arith, h.big)) r.divisor in
    elim (dec_lt (least_divisor q) q) [ yes l ↦ absurd (h.least (least_divisor q) r.big l r.divisor) | no l ↦ omega arith ]

-- ---- primes and prime factors

is_prime_true : (q : ℕ) → is_prime q ≡ true → Least q q
is_prime_true q e = elim (test (ltb 1 q)) [
  | inl h ↦ rw (eqb-true (least_divisor q) q (rw h at e)) at (lowest_is q (ltb-true 1 q h))
  | inr h ↦ true_false e (rw h)
]

prime_true : (q : ℕ) → Least q q → is_prime q ≡ true
prime_true q h = rw (lt-ltb 1 q h.big) (eq-eqb (least_divisor q) q (prime_lowest q h))

record Factor (n q : ℕ) : Type 0 where
  divisor : q ∣ n
  prime : Least q q

factor_true : (n q : ℕ) → is_factor n q ≡ true → Factor n q
factor_true n q e = elim (test (divides q n)) [
  | inl h ↦ record { divisor = divides_true q n h; prime = is_prime_true q (rw h at e) }
  | inr h ↦ true_false e (rw h)
]

true_factor : (n q : ℕ) → q ∣ n → Least q q → is_factor n q ≡ true
true_factor n q h k = rw (dvd_divides q n h) (prime_true q k)

bool_same : (a b : Bool) → (a ≡ true → b ≡ true) → (b ≡ true → a ≡ true) → a ≡ b
bool_same true b f g = sym (f refl)
bool_same false true f g = g refl
bool_same false false f g = refl

-- the prime factors of m p are those of m, and p
pub factor_other : (m p : ℕ) → Least p p → (q : ℕ) → (q ≡ p → ⊥) → is_factor (m * p) q ≡ is_factor m q
factor_other m p h q ne = bool_same (is_factor (m * p) q) (is_factor m q)
    (λ e. let k = factor_true (m * p) q e in elim (euclid q k.prime (pos m) (pos p) (dvd_mult k.divisor)) [
      | inl l ↦ true_factor m q (mult_dvd q m l) k.prime
      | inr l ↦
          let d = mult_dvd q p l in
          let low = le_of_dvd {m = q} {n = p} (omega (arith, h.big)) d in
          let small : q < p = elim (ℕ_discrete q p) [ yes z ↦ absurd (ne z) | no z ↦ omega arith ] in
          absurd (h.least q k.prime.big small d)
    ])
    (λ e. let k = factor_true m q e in true_factor (m * p) q (dvd_trans q k.divisor (dvd-mul_right m p)) k.prime)

pub factor_new : (m p : ℕ) → Least p p → is_factor (m * p) p ≡ true
factor_new m p h = true_factor (m * p) p (dvd-mul_left p m) h

pub factor_old : (m p : ℕ) → Least p p → p ∣ m → (q : ℕ) → is_factor (m * p) q ≡ is_factor m q
factor_old m p h d q = elim (ℕ_discrete q p) [
  | yes e ↦ rw e (factor_new m p h ∙ sym (true_factor m p d h))
  | no e ↦ factor_other m p h q e
]

pub factor_none : (m p : ℕ) → (p ∣ m → ⊥) → is_factor m p ≡ false
factor_none m p h = elim (test (is_factor m p)) [ inl e ↦ absurd (h (factor_true m p e).divisor) | inr e ↦ e ]

pub factor_one : (q : ℕ) → is_factor 1 q ≡ false
factor_one q = elim (test (is_factor 1 q)) [
  | inl e ↦ let k = factor_true 1 q e in let no : ⊥ = omega (arith, k.prime.big, le_of_dvd {m = q} {n = 1} (omega arith) k.divisor) in absurd no
  | inr e ↦ e
]

-- ---- products

module _ (f : ℕ → ℕ) where
  pub over_none : (n b : ℕ) → ((q : ℕ) → is_factor n q ≡ false) → over_primes f n b ≡ 1
  unfolding over_primes
  over_none n zero h = refl
  over_none n (suc b) h = rw (over_primes, h b) (omega (arith, over_none n b h))

  pub over_same : (n m b : ℕ) → ((q : ℕ) → q < b → is_factor n q ≡ is_factor m q) → over_primes f n b ≡ over_primes f m b
  unfolding over_primes
  over_same n m zero h = refl
  over_same n m (suc b) h = rw (over_primes, over_same n m b (λ q l. h q (omega arith)), h b (omega arith))

  pub over_more : (n m p b : ℕ) → p < b → ((q : ℕ) → (q ≡ p → ⊥) → is_factor n q ≡ is_factor m q) → is_factor n p ≡ true → is_factor m p ≡ false
      → over_primes f n b ≡ f p * over_primes f m b
  unfolding over_primes
  over_more n m p zero l h yes-n no-m = none_below_lem l
  over_more n m p (suc b) l h yes-n no-m = elim (ℕ_discrete b p) [
    | yes e ↦ rw (e, yes-n, no-m, over_same n m p (λ q k. h q (λ z. omega arith))) (omega arith)
    | no e ↦ rw (h b e, over_more n m p b (omega arith) h yes-n no-m) (mul_assoc (f p) (over_primes f m b) _)
  ]

  pub over_some : (n b : ℕ) → ((q : ℕ) → Least q q → 0 < f q) → 0 < over_primes f n b
  unfolding over_primes
  over_some n zero h = omega arith
  over_some n (suc b) h = let k = over_some n b h in elim (test (is_factor n b)) [
    | inl e ↦ rw (over_primes, e) (mul-pos k (h b (factor_true n b e).prime))
    | inr e ↦ rw (over_primes, e) (omega arith)
  ]
