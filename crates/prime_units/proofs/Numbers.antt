-- Primes by their least divisor, powers of a prime.
-- Assumes nothing.
use mathlib.Core.Path.{◌≡◌, sym, ◌∙◌, ap, subst}
use mathlib.Core.Bool.{true, false}
use Prim.Native.Nat.{ℕ, zero, suc, ◌+◌, ◌-◌, ◌*◌, ◌^◌, ◌/◌, ◌%◌, ◌≤◌, ◌<◌, ◌∣◌}
use native.Mathlib.Omega.{arith}
use native.Mathlib.Decide.{ℕ_discrete}
use native.Mathlib.Nat.{
  pow-zero,
  pow-suc,
  mul-pos,
  mul-le-mul_left,
  dvd_of_mod-eq-zero,
  mod-eq-zero_of_dvd,
  div-mul_cancel,
  le_of_dvd,
  mod_self,
  dvd_refl,
}
use lib.Dec.{eqb, ltb}
use lib.IntN.{ℤ, pos, negsuc, neg_ℤ, ◌+ℤ◌, ◌-ℤ◌}
use borrow.Author.Tests.{eq-eqb, ne_eqb, lt-ltb, le-ltb}
use Rattle.basics.proofs.Choice.{pick_true, pick_false}
use Rattle.congruence.specs.Index.{divides, divisor_from, least_divisor, is_prime}
use Rattle.congruence.proofs.Factor.{mult_dvd}
use mathlib.Core.List.{[], ◌∷◌}
use native.Mathlib.Nat.{mod-lt}
use Rattle.matrix.proofs.Ring.{con, var, ◌⊕◌, ◌⊙◌, ⊖◌, ring}
use Rattle.congruence.specs.Congruence.{Multiple}
use Rattle.congruence.proofs.Multiple.{mult_as, mult-+, mult_neg, residue, residue_one}
use Rattle.congruence.proofs.Prime.{Inverse}
use Rattle.wohlfahrt.proofs.Combine.{combine}
use Rattle.congruence_decision.specs.Maps.{Share}
use Rattle.congruence_decision.proofs.Primes.{prime_least, coprime_power}
use Rattle.congruence_decision.proofs.Maps.{remainder_mult}
use Rattle.prime_units.specs.Inner.Numbers.{OwnPart, InverseOrNone}

-- ---- the least divisor

pub record Seeking (p d : ℕ) : Type 0 where
  pub from : 2 ≤ d
  pub low : d ≤ p
  pub same : least_divisor p ≡ divisor_from (p - d + 2) d p

pub seeking_start : (p : ℕ) → 2 ≤ p → Seeking p 2
seeking_start p h = record { from = omega arith; low = h; same = ap (λ (k : ℕ). divisor_from k 2 p) (omega arith) }

not_last : (p d : ℕ) → 0 < p → (p % d ≡ 0 → ⊥) → p ≡ d → ⊥
not_last p d s ne e = ne (rw e (mod_self d))

step_on : (k d p : ℕ) → (p % d ≡ 0 → ⊥) → divisor_from (suc k) d p ≡ divisor_from k (suc d) p
unfolding divisor_from
step_on k d p ne = pick_false (eqb (p % d) 0) d (divisor_from k (suc d) p) (ne_eqb (p % d) 0 ne)

step_here : (k d p : ℕ) → p % d ≡ 0 → divisor_from (suc k) d p ≡ d
unfolding divisor_from
step_here k d p e = pick_true (eqb (p % d) 0) d (divisor_from k (suc d) p) (eq-eqb (p % d) 0 e)

pub seeking_next : {p d : ℕ} → Seeking p d → (p % d ≡ 0 → ⊥) → Seeking p (d + 1)
seeking_next {p} {d} s ne =
    let l : d < p = elim (ℕ_discrete p d) [ yes e ↦ absurd (not_last p d (omega (arith, s.from, s.low)) ne e) | no e ↦ omega (arith, s.low) ] in
    record {
      from = omega (arith, s.from);
      low = omega arith;
      same = s.same ∙ ap (λ (k : ℕ). divisor_from k d p) (omega arith) ∙ step_on (p - (d + 1) + 2) d p ne
          ∙ ap (λ (x : ℕ). divisor_from (p - (d + 1) + 2) x p) (omega arith);
    }

pub seeking_end : {p d : ℕ} → Seeking p d → p % d ≡ 0 → is_prime p ≡ eqb d p
seeking_end {p} {d} s e =
    let least : least_divisor p ≡ d = s.same ∙ ap (λ (k : ℕ). divisor_from k d p) (omega arith) ∙ step_here (p - d + 1) d p e in
    pick_true (ltb 1 p) (eqb (least_divisor p) p) false (lt-ltb 1 p (omega (arith, s.from, s.low))) ∙ ap (λ (z : ℕ). eqb z p) least

pub small_prime : (p : ℕ) → p < 2 → is_prime p ≡ false
small_prime p h = pick_false (ltb 1 p) (eqb (least_divisor p) p) false (le-ltb 1 p (omega arith))

pub product_low : (x y m k : ℕ) → x ≤ m → y ≤ k → x * y ≤ m * k
product_low x y m k h l =
    let a : x * y ≤ x * k = mul-le-mul_left x l in
    let b : k * x ≤ k * m = mul-le-mul_left k h in
    omega arith

-- ---- powers of p

pub grows : (q p : ℕ) → 0 < q → 1 < p → q < q * p
grows q p s h = let two : q * 2 ≤ q * p = mul-le-mul_left q h in omega arith

pub record Dividing (p d r : ℕ) : Type 0 where
  pub i : ℕ
  pub is : r ≡ p ^ i
  pub divides : r ∣ d
  pub some : 0 < r
  pub low : r ≤ d

pub dividing_start : (p d : ℕ) → 0 < d → Dividing p d 1
dividing_start p d h = record {
  i = 0;
  is = sym (pow-zero p);
  divides = mult_dvd 1 d
      (record { times = pos d; is = ap pos (omega arith) });
  some = omega arith;
  low = omega arith;
}

pub dividing_next : {p d r : ℕ} → 1 < p → 0 < d → Dividing p d r → d % (r * p) ≡ 0 → Dividing p d (r * p)
dividing_next {p} {d} {r} h s g e =
    let v = dvd_of_mod-eq-zero (r * p) e in
    record {
      i = suc g.i;
      is = ap (λ (z : ℕ). z * p) g.is ∙ sym (pow-suc p g.i);
      divides = v;
      some = omega (arith, grows r p g.some h);
      low = le_of_dvd {m = r * p} {n = d} s v;
    }

regroup : (x p co r d : ℕ) → co ≡ x * p → co * r ≡ d → x * (r * p) ≡ d
regroup x p co r d e f = omega arith ∙ ap (λ (z : ℕ). z * r) (sym e) ∙ f

pub dividing_end : {p d r : ℕ} → Dividing p d r → (d % (r * p) ≡ 0 → ⊥) → OwnPart p d r
dividing_end {p} {d} {r} g ne =
    let co = d / r in
    let w : co * r ≡ d = div-mul_cancel r g.divides in
    record {
      i = g.i;
      is = g.is;
      some = g.some;
      whole = w;
      clear = λ v. ne (mod-eq-zero_of_dvd (r * p) (mult_dvd (r * p) d
          (record { times = pos (co / p); is = ap pos (sym (regroup (co / p) p co r d (sym (div-mul_cancel p v)) w)) })));
    }

-- ---- the share

mult_remainder : (r a b : ℕ) → 0 < r → Multiple r (pos a -ℤ pos b) → a % r ≡ b % r
mult_remainder r a b s m =
    let x = pos (a % r) in
    let y = pos (b % r) in
    let ha = remainder_mult r a in
    let hb = remainder_mult r b in
    residue_one r (a % r) (b % r) (mod-lt a s) (mod-lt b s)
    (combine (x ∷ y ∷ pos a ∷ pos b ∷ []) (var 0 ⊕ ⊖ var 1)
    (con (pos 1) ⊙ (var 0 ⊕ ⊖ var 2) ⊕ con (pos 1) ⊙ (var 2 ⊕ ⊖ var 3) ⊕ con (pos 1) ⊙ ⊖ (var 1 ⊕ ⊖ var 3)) tt ((ha, m), mult_neg hb))

pub remainder_back : (r a b : ℕ) → a % r ≡ b % r → Multiple r (pos a -ℤ pos b)
remainder_back r a b e =
    let ha = remainder_mult r a in
    let hb = remainder_mult r b in
    mult_as (ap (λ (z : ℕ). neg_ℤ (pos z -ℤ pos a) +ℤ (pos (b % r) -ℤ pos b)) e
    ∙ ring (pos (b % r) ∷ pos a ∷ pos b ∷ []) (⊖ (var 0 ⊕ ⊖ var 1) ⊕ (var 0 ⊕ ⊖ var 2)) (var 1 ⊕ ⊖ var 2) tt) (mult-+ (mult_neg ha) hb)

pub record Stepping (d r co e : ℕ) : Type 0 where
  pub steps : ℕ
  pub good : steps * co % r ≡ 1 % r
  pub within : steps ≤ r
  pub k : ℕ
  pub is : e ≡ k * co
  pub low : k ≤ steps

co_inverse : (p d r : ℕ) → is_prime p ≡ true → OwnPart p d r → Inverse r (pos (d / r))
co_inverse p d r h o = subst (λ (z : ℕ). Inverse z (pos (d / r))) (sym o.is) (coprime_power p (prime_least p h) o.i (d / r) o.clear)

pub stepping_start : (p d r : ℕ) → is_prime p ≡ true → OwnPart p d r → Stepping d r (d / r) 0
stepping_start p d r h o =
    let i = co_inverse p d r h o in
    let z = residue r o.some i.by in
    let co = pos (d / r) in
    record {
      steps = z.is;
      good = mult_remainder r (z.is * (d / r)) 1 o.some
          (combine (co ∷ i.by ∷ pos z.is ∷ []) (var 2 ⊙ var 0 ⊕ con (negsuc 0))
          (con (pos 1) ⊙ (var 0 ⊙ var 1 ⊕ con (negsuc 0)) ⊕ ⊖ var 0 ⊙ (var 1 ⊕ ⊖ var 2)) tt (i.is, z.differs));
      within = omega (arith, z.low);
      k = 0;
      is = omega arith;
      low = omega arith;
    }

pub record Stepped (d r co e : ℕ) : Type 0 where
  pub next : Stepping d r co (e + co)
  pub low : e + co ≤ d
  pub some : 0 < co

some_factor : (co r d : ℕ) → co * r ≡ d → 0 < d → 0 < co
some_factor zero r d e h = let no : ⊥ = omega arith in absurd no
some_factor (suc co) r d e h = omega arith

more_times : (k co : ℕ) → k * co + co ≡ suc k * co
more_times k co = omega arith

pub stepping_next : {d r co e : ℕ} → 0 < d → co * r ≡ d → Stepping d r co e → (e % r ≡ 1 % r → ⊥) → Stepped d r co e
stepping_next {d} {r} {co} {e} ds w s ne =
    let k = s.k in
    let l : k < s.steps = elim (ℕ_discrete k s.steps)
    [ yes x ↦ absurd (ne (ap (λ (z : ℕ). z % r) (s.is ∙ ap (λ (z : ℕ). z * co) x) ∙ s.good)) | no x ↦ omega (arith, s.low) ] in
    let b : co * suc k ≤ co * r = mul-le-mul_left co (omega (arith, s.within)) in
    record {
      next = record {
        steps = s.steps;
        good = s.good;
        within = s.within;
        k = suc k;
        is = ap (λ (z : ℕ). z + co) s.is
            ∙ more_times k co;
        low = l;
      };
      low = omega (arith, s.is, b, w);
      some = some_factor co r d w ds;
    }

pub stepping_end : {p d r e : ℕ} → OwnPart p d r → Stepping d r (d / r) e → e % r ≡ 1 % r → Share p d e
stepping_end {p} {d} {r} {e} o s h = record {
  i = o.i;
  rest = d / r;
  is = ap (λ (z : ℕ). z * (d / r)) (sym o.is) ∙ omega (arith, o.whole);
  clear = o.clear;
  one = rw o.is at (remainder_back r e 1 h);
  none = record { times = pos s.k; is = ap pos s.is };
}

pub stepping_low : {d r co e : ℕ} → co * r ≡ d → Stepping d r co e → e ≤ d
stepping_low {d} {r} {co} {e} w s = let b : co * s.k ≤ co * r = mul-le-mul_left co (omega (arith, s.low, s.within)) in omega (arith, s.is, b, w)

-- ---- the inverse

pub record Inverting (q g h : ℕ) : Type 0 where
  pub some : 0 < h
  pub low : h ≤ q + 1
  pub none : (k : ℕ) → 0 < k → k < h → g * k % q ≡ 1 → ⊥

pub inverting_start : (q g : ℕ) → Inverting q g 1
inverting_start q g = record { some = omega arith; low = omega arith; none = λ k a b e. let no : ⊥ = omega arith in no }

pub inverting_more : {q g h : ℕ} → Inverting q g h → h ≤ q → (g * h % q ≡ 1 → ⊥) → Inverting q g (h + 1)
inverting_more {q} {g} {h} i l n = record {
  some = omega arith;
  low = omega arith;
  none = λ k a b e. elim (ℕ_discrete k h) [ yes z ↦ n (ap (λ (x : ℕ). g * x % q) (sym z) ∙ e) | no z ↦ i.none k a (omega arith) e ];
}

pub inverting_end : {q g h : ℕ} → Inverting q g h → q < h → InverseOrNone q g 0
inverting_end i l = record { low = omega arith; is = λ a. let no : ⊥ = omega arith in absurd no; none = λ e k a b. i.none k a (omega arith) }
