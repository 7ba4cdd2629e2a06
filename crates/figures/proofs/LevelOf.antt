-- The theorem on the least common multiple of a list, `lcm_of_is`, and the laws of the code of the level.
-- Why: what divides a c and b c divides gcd a b times c, by Euclid's rule; with c a common multiple of a and b this is all that
-- lcm a b = a / gcd a b * b needs.
-- In order: `gcd`; `lcm`; the least common multiple of a list; 2^64: the test, and the answers.
-- Assumes nothing.
use Rattle.std.specs.Prelude.{Ok, Err}
use mathlib.Core.Path.{◌≡◌, refl, ap}
use mathlib.Core.Logic.{inl, inr}
use mathlib.Core.List.{List, [], ◌∷◌}
use Prim.Native.Nat.{ℕ, zero, suc, ◌+◌, ◌*◌, ◌/◌, ◌%◌, ◌≤◌, ◌<◌, ◌∣◌}
use native.Mathlib.Nat.{mod-lt, dvd_refl, dvd-zero, dvd_trans, dvd-mod_iff, le_of_dvd, dvd-mul_left, dvd-mul_right, mul-div_cancel'}
use native.Mathlib.Nat.{dvd-mul_left_of_dvd, div-add-mod', dvd-add_iff_right, pos_of_dvd_of_pos, div-mul_cancel, mul-dvd-mul_left}
use native.Mathlib.Nat.{dvd_of_mul-dvd-mul_left, one-dvd}
use native.Mathlib.Omega.{arith}
use lib.ListN.{length, get_or}
use lib.Dec.{ltb}
use borrow.Author.Tests.{lt-ltb, le-ltb, ltb-true, ltb-false}
use Rattle.call.specs.declared.refusal.Refusal.TheVariants.{LevelTooLarge}
use Rattle.call.specs.declared.refusal.Refusal.{Refusal}
use Rattle.figures.specs.LevelOf.{euclid, gcd, lcm, lcm_from, lcm_of, TOO_LARGE, fitting, Positive, LeastMultiple}
use Rattle.numbering.proofs.Find.{none_below_lem, test}

-- ---- the greatest common divisor
-- more rounds than enough change nothing
euclid_same : (k j a b : ℕ) → b ≤ k → b ≤ j → euclid k a b ≡ euclid j a b
unfolding euclid
euclid_same zero zero a b h g = refl
euclid_same zero (suc j) a zero h g = refl
euclid_same zero (suc j) a (suc b) h g = none_below_lem h
euclid_same (suc k) zero a zero h g = refl
euclid_same (suc k) zero a (suc b) h g = none_below_lem g
euclid_same (suc k) (suc j) a zero h g = refl
euclid_same (suc k) (suc j) a (suc b) h g =
    let m = mod-lt a {m = suc b} (omega arith) in
    euclid_same k j (suc b) (a % suc b) (omega arith) (omega arith)

pub gcd_step : (a b : ℕ) → 0 < b → gcd a b ≡ gcd b (a % b)
unfolding euclid
gcd_step a zero h = none_below_lem h
gcd_step a (suc b) h =
    let m = mod-lt a {m = suc b} (omega arith) in
    euclid_same b (a % suc b) (suc b) (a % suc b) (omega arith) (omega arith)

pub gcd_zero : (a : ℕ) → gcd a 0 ≡ a
unfolding euclid
gcd_zero a = refl

euclid_divides : (k a b : ℕ) → b ≤ k → (euclid k a b ∣ a) × (euclid k a b ∣ b)
unfolding euclid
euclid_divides zero a b h = let z : b ≡ 0 = omega arith in rw z (dvd_refl a, dvd-zero a)
euclid_divides (suc k) a zero h = (dvd_refl a, dvd-zero a)
euclid_divides (suc k) a (suc b) h =
    let m = mod-lt a {m = suc b} (omega arith) in
    let d = euclid_divides k (suc b) (a % suc b) (omega arith) in
    ((dvd-mod_iff _ d.0).0 d.1, d.0)

euclid_greatest : (k a b c x : ℕ) → b ≤ k → x ∣ a * c → x ∣ b * c → x ∣ euclid k a b * c
unfolding euclid
euclid_greatest zero a b c x h p q = p
euclid_greatest (suc k) a zero c x h p q = p
euclid_greatest (suc k) a (suc b) c x h p q =
    let m = mod-lt a {m = suc b} (omega arith) in
    let e : a / suc b * (suc b * c) + a % suc b * c ≡ a * c = omega (arith, ap (λ (z : ℕ). z * c) (div-add-mod' a (suc b))) in
    euclid_greatest k (suc b) (a % suc b) c x (omega arith) q ((dvd-add_iff_right x (dvd-mul_left_of_dvd x q (a / suc b))).1 (rw e p))

gcd_divides : (a b : ℕ) → (gcd a b ∣ a) × (gcd a b ∣ b)
gcd_divides a b = euclid_divides b a b (omega arith)

pub gcd_some : (a b : ℕ) → 0 < a → 0 < gcd a b
gcd_some a b h = pos_of_dvd_of_pos (gcd_divides a b).0 h

-- ---- the least common multiple of two numbers
-- m is the least common multiple of k and of all of l
pub record MultipleFrom (k : ℕ) (l : List ℕ) (m : ℕ) : Type 0 where
  pub some : 0 < m
  pub base : k ∣ m
  pub each : (j : ℕ) → j < length l → get_or l j 0 ∣ m
  pub least : (c : ℕ) → k ∣ c → ((j : ℕ) → j < length l → get_or l j 0 ∣ c) → m ∣ c

pos_left : (x y : ℕ) → 0 < x * y → 0 < x
pos_left zero y h = omega arith
pos_left (suc x) y h = omega arith

pos_mul : (x y : ℕ) → 0 < x → 0 < y → 0 < x * y
pos_mul zero y h k = omega arith
pos_mul (suc x) zero h k = omega arith
pos_mul (suc x) (suc y) h k = omega arith

module _ (a b : ℕ) (ha : 0 < a) (hb : 0 < b) where
  pub lcm_some : 0 < lcm a b
  lcm_some = pos_mul (a / gcd a b) b (pos_left (a / gcd a b) (gcd a b) (rw (div-mul_cancel (gcd a b) (gcd_divides a b).0) ha)) hb

  lcm_left : a ∣ lcm a b
  lcm_left =
      let g = gcd a b in
      let d = gcd_divides a b in
      let e : a / g * b ≡ a * (b / g) =
      omega (arith, ap (λ (z : ℕ). a / g * z) (mul-div_cancel' g d.1), ap (λ (z : ℕ). z * (b / g)) (div-mul_cancel g d.0)) in
      rw e (dvd-mul_right a (b / g))

  lcm_right : b ∣ lcm a b
  lcm_right = dvd-mul_left b (a / gcd a b)

  lcm_least : (c : ℕ) → a ∣ c → b ∣ c → lcm a b ∣ c
  lcm_least c x y =
      let g = gcd a b in
      let s : a * b ≡ b * a = omega arith in
      let t = euclid_greatest b a b c (a * b) (omega arith) (mul-dvd-mul_left b a y) (rw s (mul-dvd-mul_left a b x)) in
      let e : a * b ≡ g * (a / g * b) = omega (arith, ap (λ (z : ℕ). z * b) (div-mul_cancel g (gcd_divides a b).0)) in
      dvd_of_mul-dvd-mul_left (a / g * b) (gcd_some a b ha) (rw e at t)

-- ---- the least common multiple of a list
positive_rest : {x : ℕ} {l : List ℕ} → Positive (x ∷ l) → Positive l
positive_rest p = record { each = λ j h. p.each (suc j) (omega arith) }

lcm_from_is : (m : ℕ) (l : List ℕ) → 0 < m → Positive l → MultipleFrom m l (lcm_from m l)
unfolding lcm_from
lcm_from_is m [] h p = record { some = h; base = dvd_refl m; each = λ j k. none_below_lem k; least = λ c b e. b }
lcm_from_is m (x ∷ l) h p =
    let hx = p.each 0 (omega arith) in
    let r = lcm_from_is (lcm m x) l (lcm_some m x h hx) (positive_rest p) in
    record {
      some = r.some;
      base = dvd_trans _ (lcm_left m x h hx) r.base;
      each = each_of m x l hx h r;
      least = λ c b e. r.least c (lcm_least m x h hx c b (e 0 (omega arith))) (λ j k. e (suc j) (omega arith));
    }
  where
    each_of : (m x : ℕ) (l : List ℕ) (hx : 0 < x) (h : 0 < m) → MultipleFrom (lcm m x) l (lcm_from (lcm m x) l) → (j : ℕ) → j < length (x ∷ l)
        → get_or (x ∷ l) j 0 ∣ lcm_from (lcm m x) l
    each_of m x l hx h r zero k = dvd_trans _ (lcm_right m x h hx) r.base
    each_of m x l hx h r (suc j) k = r.each j (omega arith)

pub lcm_of_is : (l : List ℕ) → Positive l → LeastMultiple l (lcm_of l)
lcm_of_is l p =
    let r = lcm_from_is 1 l (omega arith) p in
    record { some = r.some; each = r.each; least = λ c e. r.least c (one-dvd c) e }

-- it never falls: once over 2^64, over it for good
pub lcm_from_le : (m : ℕ) (l : List ℕ) → 0 < m → Positive l → m ≤ lcm_from m l
lcm_from_le m l h p = let r = lcm_from_is m l h p in le_of_dvd r.some r.base

-- ---- 2^64
pub fitting_yes : (m : ℕ) → m < TOO_LARGE → Ok m ≡ fitting m
fitting_yes m h = rw (lt-ltb m TOO_LARGE h)

pub fitting_no : (m : ℕ) → TOO_LARGE ≤ m → Err LevelTooLarge ≡ fitting m
fitting_no m h = rw (le-ltb m TOO_LARGE h)

-- what an answer says of the number
pub value_fits : (m k : ℕ) → Ok k ≡ fitting m → (k ≡ m) × (k < TOO_LARGE)
value_fits m k e = elim (test (ltb m TOO_LARGE)) [
  | inl q ↦ let d = rw q at e in let s : k ≡ m = cc in let l = ltb-true m TOO_LARGE q in (s, omega arith)
  | inr q ↦ let d = rw q at e in let z : ◌≡◌ {A = ℕ} 0 1 = cc in let no : ⊥ = omega arith in absurd no
]

pub refused_over : (m : ℕ) (f : Refusal) → Err f ≡ fitting m → TOO_LARGE ≤ m
refused_over m f e = elim (test (ltb m TOO_LARGE)) [
  | inl q ↦ let d = rw q at e in let z : ◌≡◌ {A = ℕ} 0 1 = cc in let no : ⊥ = omega arith in absurd no
  | inr q ↦ ltb-false m TOO_LARGE q
]
