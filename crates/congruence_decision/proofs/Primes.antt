-- Powers of a prime: an inverse modulo p gives one modulo each power of p; and the power of p that divides a number.
--
--   Stripped p m       m is a power of p times a number that p doesn't divide
--
-- Assumes nothing.
use mathlib.Core.Path.{◌≡◌, ◌∙◌, ap}
use mathlib.Core.Logic.{inl, inr}
use mathlib.Core.Bool.{true}
use mathlib.Core.List.{[], ◌∷◌}
use Prim.Native.Nat.{ℕ, zero, suc, ◌*◌, ◌^◌, ◌/◌, ◌%◌, ◌≤◌, ◌<◌, ◌∣◌}
use native.Mathlib.Omega.{arith}
use native.Mathlib.Decide.{dec_lt, ℕ_discrete}
use native.Mathlib.Nat.{pow-zero, pow-suc, mul-pos, div-mul_cancel, mul-le-mul_left, dvd_of_mod-eq-zero, mod-eq-zero_of_dvd, le_of_dvd}
use lib.IntN.{ℤ, pos, negsuc, neg_ℤ, ◌-ℤ◌, ◌*ℤ◌}
use lib.Dec.{ltb}
use borrow.Author.Tests.{eqb-true, ltb-true, eq-eqb, lt-ltb}
use Rattle.matrix.proofs.Ring.{con, var, ◌⊕◌, ◌⊙◌, ⊖◌, ring}
use Rattle.numbering.proofs.Find.{test, true_false}
use Rattle.congruence.specs.Congruence.{Multiple}
use Rattle.congruence.specs.Index.{least_divisor, is_prime}
use Rattle.congruence.proofs.Multiple.{mult_as, mult_self, mult_zero}
use Rattle.congruence.proofs.Prime.{Least, Inverse, multiple_or_inverse}
use Rattle.congruence.proofs.Factor.{lowest_is, mult_dvd}
use Rattle.wohlfahrt.proofs.Combine.{combine}
use Rattle.wohlfahrt.proofs.Inverting.{inverse_both}

pub prime_least : (p : ℕ) → is_prime p ≡ true → Least p p
prime_least q e = elim (test (ltb 1 q)) [
  | inl h ↦ rw (eqb-true (least_divisor q) q (rw h at e)) at (lowest_is q (ltb-true 1 q h))
  | inr h ↦ true_false e (rw h)
]

pub prime_true : (q : ℕ) → Least q q → is_prime q ≡ true
prime_true q h =
    let r = lowest_is q h.big in
    let low = le_of_dvd {m = least_divisor q} {n = q} (omega (arith, h.big)) r.divisor in
    let is : least_divisor q ≡ q = elim (dec_lt (least_divisor q) q) [
      | yes l ↦ absurd (h.least (least_divisor q) r.big l r.divisor)
      | no l ↦ omega arith
    ] in
    rw (lt-ltb 1 q h.big) (eq-eqb (least_divisor q) q is)

-- ---- powers of p

pow_one : (p : ℕ) → p ^ 1 ≡ p
pow_one p = pow-suc p 0 ∙ ap (λ (z : ℕ). z * p) (pow-zero p) ∙ omega arith

pub power_inverse : (p k : ℕ) (z : ℤ) → Inverse p z → Inverse (p ^ suc k) z
power_inverse p zero z h = rw (pow_one p) h
power_inverse p (suc k) z h = let e = pow-suc p (suc k) in rw e (inverse_both (p ^ suc k) p z (power_inverse p k z h) h)

pub power_part : (p k : ℕ) → Multiple p (pos (p ^ suc k))
power_part p k = record { times = pos (p ^ k); is = ap pos (pow-suc p k) }

pub power_some : (p k : ℕ) → 0 < p → 0 < p ^ k
power_some p zero h = rw (pow-zero p) (omega arith)
power_some p (suc k) h = rw (pow-suc p k) (mul-pos (power_some p k h) h)

-- ---- inverses modulo one number

inverse_times : (m : ℕ) (u v : ℤ) → Inverse m u → Inverse m v → Inverse m (u *ℤ v)
inverse_times m u v h k =
    let x = h.by in
    let y = k.by in
    record {
      by = x *ℤ y;
      is = combine (u ∷ v ∷ x ∷ y ∷ []) (var 0 ⊙ var 1 ⊙ (var 2 ⊙ var 3) ⊕ con (negsuc 0))
          (var 1 ⊙ var 3 ⊙ (var 0 ⊙ var 2 ⊕ con (negsuc 0)) ⊕ con (pos 1) ⊙ (var 1 ⊙ var 3 ⊕ con (negsuc 0))) tt (h.is, k.is);
    }

pub inverse_power : (m p k : ℕ) → Inverse m (pos p) → Inverse m (pos (p ^ k))
inverse_power m p zero h = rw (pow-zero p) (record { by = pos 1; is = mult_zero })
inverse_power m p (suc k) h = rw (pow-suc p k) (inverse_times m (pos (p ^ k)) (pos p) (inverse_power m p k h) h)

-- where x has an inverse modulo y, y has one modulo x
inverse_turned : (x y : ℕ) → Inverse x (pos y) → Inverse y (pos x)
inverse_turned x y i = record {
  by = neg_ℤ i.is.times;
  is = mult_as
      (ap (λ (z : ℤ). neg_ℤ z -ℤ pos 1) i.is.is
      ∙ ring (i.is.times ∷ pos x ∷ []) (⊖ (var 0 ⊙ var 1) ⊕ con (negsuc 0)) (var 1 ⊙ ⊖ var 0 ⊕ con (negsuc 0)) tt)
      (combine (pos y ∷ i.by ∷ []) (⊖ (var 0 ⊙ var 1 ⊕ con (negsuc 0)) ⊕ con (negsuc 0)) (⊖ var 1 ⊙ var 0) tt mult_self);
}

pub coprime : (p : ℕ) → Least p p → (k c : ℕ) → (p ∣ c → ⊥) → Inverse (p ^ suc k) (pos c)
coprime p prime k c clear = elim (multiple_or_inverse p prime (pos c)) [
  | inl h ↦ absurd (clear (mult_dvd p c h))
  | inr i ↦ power_inverse p k (pos c) i
]

-- what divides x y, and has an inverse of x, divides y
pub divides_other : (c : ℕ) (x y : ℤ) → Inverse c x → Multiple c (x *ℤ y) → Multiple c y
divides_other c x y i h = combine (x ∷ y ∷ i.by ∷ []) (var 1) (var 2 ⊙ (var 0 ⊙ var 1) ⊕ ⊖ var 1 ⊙ (var 0 ⊙ var 2 ⊕ con (negsuc 0))) tt (h, i.is)

all_one : (z : ℤ) → Multiple 1 z
all_one z = record { times = z; is = ring (z ∷ []) (var 0) (var 0 ⊙ con (pos 1)) tt }

-- c has an inverse modulo each power of p, and the other way round
pub coprime_power : (p : ℕ) → Least p p → (k c : ℕ) → (p ∣ c → ⊥) → Inverse (p ^ k) (pos c)
coprime_power p prime zero c clear = rw (pow-zero p) (record { by = pos 0; is = all_one (pos c *ℤ pos 0 -ℤ pos 1) })
coprime_power p prime (suc k) c clear = coprime p prime k c clear

pub coprime_turned : (p : ℕ) → Least p p → (k c : ℕ) → (p ∣ c → ⊥) → Inverse c (pos (p ^ k))
coprime_turned p prime k c clear = inverse_turned (p ^ k) c (coprime_power p prime k c clear)

-- ---- the power of p that divides m

pub record Stripped (p m : ℕ) : Type 0 where
  pub power : ℕ
  pub rest : ℕ
  pub is : p ^ power * rest ≡ m
  pub clear : p ∣ rest → ⊥

whole_of : (p k r m m' : ℕ) → p ^ k * r ≡ m' → m' * p ≡ m → p ^ suc k * r ≡ m
whole_of p k r m m' e f = ap (λ (z : ℕ). z * r) (pow-suc p k) ∙ omega arith ∙ ap (λ (z : ℕ). z * p) e ∙ f

part_less : (p r m : ℕ) → 1 < p → 0 < m → r * p ≡ m → (r < m) × (0 < r)
part_less p zero m h k e = let no : ⊥ = omega arith in absurd no
part_less p (suc r) m h k e = let two : suc r * 2 ≤ suc r * p = mul-le-mul_left (suc r) h in (omega arith, omega arith)

pub power_big : (p k : ℕ) → 1 < p → 1 < p ^ suc k
power_big p k h =
    let some = power_some p k (omega arith) in
    let two : p ^ k * 2 ≤ p ^ k * p = mul-le-mul_left (p ^ k) h in
    rw (pow-suc p k) (omega arith)

-- what is left when a power of p is taken out is less
pub power_less : (p k r m : ℕ) → 1 < p → 0 < m → p ^ suc k * r ≡ m → (r < m) × (0 < r)
power_less p k r m h some e = part_less (p ^ suc k) r m (power_big p k h) some (omega arith ∙ e)

pub one_times : (p m : ℕ) → p ^ 0 * m ≡ m
one_times p m = ap (λ (z : ℕ). z * m) (pow-zero p) ∙ omega arith

pub strip : (f p m : ℕ) → 1 < p → m ≤ f → 0 < m → Stripped p m
strip zero p m h l k = let no : ⊥ = omega arith in absurd no
strip (suc f) p m h l k = elim (ℕ_discrete (m % p) 0) [
  | yes e ↦
      let r = m / p in
      let w : r * p ≡ m = div-mul_cancel p (dvd_of_mod-eq-zero p e) in
      let low = part_less p r m h k w in
      let s = strip f p r h (omega (arith, low.0)) low.1 in
      record { power = suc s.power; rest = s.rest; is = whole_of p s.power s.rest m r s.is w; clear = s.clear }
  | no e ↦ record { power = 0; rest = m; is = one_times p m; clear = λ d. e (mod-eq-zero_of_dvd p d) }
]
