-- ONE ROUNDING: a fraction a / c between the smallest normal value and half of what overflows is rounded to a float that is within 2 ^ -prec of it, relatively.
--
-- In order: the nearest whole number of units is at most half a unit away (`half`); what is kept of a fraction with all its digits in use is near it
-- (`grid_near`); the float's own fraction in place of a number of units (`within`); so for each format (`round_near`), and for the quotient of whole numbers
-- up to 2⁵³ (`divided`).
-- Why: half a unit is at most 2 ^ -prec of a number that has prec digits before the unit.
-- Assumes nothing.
use mathlib.Core.Path.{◌≡◌, sym, ap, ◌∙◌, subst}
use mathlib.Core.Bool.{Bool, not}
use Prim.Native.Nat.{ℕ, zero, suc, ◌+◌, ◌-◌, ◌*◌, ◌/◌, ◌%◌, ◌^◌, ◌≤◌, ◌<◌, compare, Ordering}
use native.Mathlib.Omega.{arith}
use native.Mathlib.Nat as Nat
use lib.Dec.{T, lit≤, lit<, is_le, compare_is_eq, eqb, leb→le, nleb→lt, eqb→eq, eqb_refl}
use lib.Arith.{lt_of_le-ne}
use lib.Pow.{pow-add, pow_pos}
use lib.Ieee.{Float, nan, inf, fin, Format, binary64, prec, emax, low, up, down, size, nearest, round}
use lib.Ieee.Fits.{round_is, two, two-le_pos}
use lib.Ieee.Exact.{HasValue, units_val, round_exact}
use lib.Ieee.Digits.{size_reaches}
use lib.Ieee.Nearest.{closest}
use lib.Ieee.Order.{drop, kept}
use lib.Ieee.Scale.{grid, overflow, normal_of_fraction}

-- ---- half a unit

abbrev Compared : Ordering → ℕ → ℕ → Type 0
Compared Ordering.lt a b = a < b
Compared Ordering.eq a b = a ≡ b
Compared Ordering.gt a b = b < a

compared : (a b : ℕ) → Compared (compare a b) a b
compared a b = go (compare a b) (leb→le a b) (nleb→lt a b) (eqb→eq a b) (λ (e : a ≡ b). subst (λ (x : ℕ). T (eqb a x)) e (eqb_refl a))
  where
    go : (o : Ordering) → (T (is_le o) → a ≤ b) → (T (not (is_le o)) → b < a) → (T (compare_is_eq o) → a ≡ b) → (a ≡ b → T (compare_is_eq o)) → Compared o a b
    go Ordering.lt h k e n = lt_of_le-ne (h tt) n
    go Ordering.eq h k e n = e tt
    go Ordering.gt h k e n = k tt

-- q units of size u are at most half a unit away from n
record Half (q u n : ℕ) : Type 0 where
  over : q * u * 2 ≤ n * 2 + u
  under : n * 2 ≤ q * u * 2 + u

half_tie : (w u n r : ℕ) → w * u + r ≡ n → r * 2 ≡ u → Half (w + w % 2) u n
half_tie w u n r e t = go (w % 2) (omega arith)
  where
    go : (b : ℕ) → b ≤ 1 → Half (w + b) u n
    go zero h = record { over = omega arith; under = omega arith }
    go (suc zero) h = record { over = omega arith; under = omega arith }
    go (suc (suc b)) h = absurd (omega arith)

half_by : (w u n r : ℕ) (o : Ordering) → w * u + r ≡ n → r < u → Compared o (r * 2) u → Half (nearest w o) u n
half_by w u n r Ordering.lt e l c = record { over = omega arith; under = omega arith }
half_by w u n r Ordering.eq e l c = half_tie w u n r e c
half_by w u n r Ordering.gt e l c = record { over = omega arith; under = omega arith }

half : (n u : ℕ) → 0 < u → Half (closest n u) u n
half n u U = half_by (n / u) u n (n % u) (compare (n % u * 2) u) (Nat.div-add-mod' n u) (Nat.mod-lt n U) (compared (n % u * 2) u)

-- ---- the distance of two naturals

abbrev pub apart : ℕ → ℕ → ℕ
apart a b = (a - b) + (b - a)

apart_mul : (a b k : ℕ) → apart a b * k ≡ apart (a * k) (b * k)
apart_mul a b k =
    Nat.mul_comm (apart a b) k ∙ Nat.mul-add k (a - b) (b - a) ∙ ap (λ (x : ℕ). x + k * (b - a)) (Nat.mul-sub k a b)
    ∙ ap (λ (x : ℕ). k * a - k * b + x) (Nat.mul-sub k b a) ∙ cc (Nat.mul_comm k a, Nat.mul_comm k b)

half_apart : (q u n : ℕ) → Half q u n → apart (q * u) n * 2 ≤ u
half_apart q u n h = omega arith

-- ---- what is kept of a fraction

digits_left : (z p : ℕ) → 0 < p → p ≤ z → p - 1 + (z - p) < z
digits_left z p P h = omega arith

-- n is at least 2 ^ (p - 1) units
many_units : (p n c : ℕ) → 0 < p → 0 < c → p ≤ size (n / c) → c * 2 ^ drop p n c * 2 ^ (p - 1) ≤ n
many_units p n c P C h =
    let k = drop p n c in
    let a : 2 ^ (p - 1) * 2 ^ k ≤ n / c =
    Nat.le_trans (Nat.le_of_eq (sym (pow-add 2 (p - 1) k))) (size_reaches (n / c) (p - 1 + k) (digits_left (size (n / c)) p P h)) in
    let e : c * 2 ^ k * 2 ^ (p - 1) ≡ 2 ^ (p - 1) * 2 ^ k * c =
    Nat.mul_assoc c (2 ^ k) (2 ^ (p - 1)) ∙ Nat.mul_comm c (2 ^ k * 2 ^ (p - 1)) ∙ ap (λ (x : ℕ). x * c) (Nat.mul_comm (2 ^ k) (2 ^ (p - 1))) in
    Nat.le_trans (Nat.le_of_eq e) ((Nat.le-div_iff_mul-le C).0 a)

twice : (p : ℕ) → 0 < p → 2 ^ p ≡ 2 * 2 ^ (p - 1)
twice (suc p) h = let e : suc p - 1 ≡ p = omega arith in rw e (Nat.pow-succ' 2 p)
twice zero h = absurd (omega arith)

grid_near : (p n c : ℕ) → 0 < p → 0 < c → p ≤ size (n / c) → apart (kept p n c * 2 ^ drop p n c * c) n * 2 ^ p ≤ n
grid_near p n c P C h =
    let k = drop p n c in
    let q = kept p n c in
    let u = c * 2 ^ k in
    let e : q * 2 ^ k * c ≡ q * u = Nat.mul_assoc q (2 ^ k) c ∙ ap (λ (x : ℕ). q * x) (Nat.mul_comm (2 ^ k) c) in
    let g : apart (q * u) n * 2 ≤ u = half_apart q u n (half n u (Nat.mul-pos C (pow_pos k))) in
    let f : apart (q * 2 ^ k * c) n * 2 ^ p ≡ apart (q * u) n * 2 * 2 ^ (p - 1) =
    ap (λ (x : ℕ). apart x n * 2 ^ p) e ∙ ap (λ (x : ℕ). apart (q * u) n * x) (twice p P) ∙ sym (Nat.mul_assoc (apart (q * u) n) 2 (2 ^ (p - 1))) in
    Nat.le_trans (Nat.le_of_eq f) (Nat.le_trans (Nat.mul-le-mul_right (2 ^ (p - 1)) g) (many_units p n c P C h))

-- ---- the float that a fraction is rounded to

pub round_value : (f : Format) (s : Bool) (a c : ℕ) → grid f a c < overflow f → HasValue (round f s a c) s (grid f a c) (2 ^ low f)
round_value f s a c h =
    subst (λ (z : Float). HasValue z s (grid f a c) (2 ^ low f)) (sym (round_is f s a c))
    (units_val f s (kept (prec f) (a * 2 ^ low f) c) (drop (prec f) (a * 2 ^ low f) c) h)

-- x is finite, has the sign s, and is within 2 ^ -p of a / c, relatively
abbrev pub Within : ℕ → Float → Bool → ℕ → ℕ → Type 0
Within p nan s a c = ⊥
Within p (inf t) s a c = ⊥
Within p (fin t m e) s a c = (t ≡ s) × (apart (m * up e * c) (a * down e) * 2 ^ p ≤ a * down e)

-- x is the fraction k / q
within : (p : ℕ) (x : Float) (s : Bool) (a c k q : ℕ) → 0 < q → HasValue x s k q → apart (k * c) (a * q) * 2 ^ p ≤ a * q → Within p x s a c
within p nan s a c k q Q v h = v
within p (inf t) s a c k q Q v h = v
within p (fin t m e) s a c k q Q v h =
    let M = m * up e in
    let D = down e in
    let d = apart (M * c) (a * D) in
    let moved : d * q ≡ apart (k * c) (a * q) * D =
    apart_mul (M * c) (a * D) q
    ∙ ap (λ (x : ℕ). apart x (a * D * q)) (Nat.mul_right_comm M c q ∙ ap (λ (x : ℕ). x * c) v.1 ∙ Nat.mul_right_comm k D c)
    ∙ ap (λ (x : ℕ). apart (k * c * D) x) (Nat.mul_right_comm a D q)
    ∙ sym (apart_mul (k * c) (a * q) D) in
    let e : d * 2 ^ p * q ≡ apart (k * c) (a * q) * 2 ^ p * D =
    Nat.mul_right_comm d (2 ^ p) q ∙ ap (λ (x : ℕ). x * 2 ^ p) moved ∙ Nat.mul_right_comm (apart (k * c) (a * q)) D (2 ^ p) in
    (v.0, Nat.le_of_mul-le-mul_right (Nat.le_trans (Nat.le_of_eq e) (Nat.le_trans (Nat.mul-le-mul_right D h) (Nat.le_of_eq (Nat.mul_right_comm a q D)))) Q)

-- what is near a number is at most twice that number
pub at_most_twice : (g n k : ℕ) → apart g n * k ≤ n → 1 ≤ k → g ≤ n + n
at_most_twice g n k h l =
    let d : apart g n ≤ apart g n * k = Nat.le_trans (Nat.le_of_eq (sym (Nat.mul-one (apart g n)))) (Nat.mul-le-mul_left (apart g n) l) in
    omega arith

pub round_near : (f : Format) (s : Bool) (a c : ℕ) → 0 < c → 2 ^ (prec f - 1) * c ≤ a * 2 ^ low f → a + a < 2 ^ suc (emax f)
    → Within (prec f) (round f s a c) s a c
round_near f s a c C h o =
    let n = a * 2 ^ low f in
    let g = grid f a c in
    let near : apart (g * c) n * 2 ^ prec f ≤ n = grid_near (prec f) n c (two-le_pos (prec f) (two f)) C (normal_of_fraction f a c C h) in
    let d : g * c ≤ n + n = at_most_twice (g * c) n (2 ^ prec f) near (pow_pos (prec f)) in
    let e : g ≤ g * c = Nat.le_trans (Nat.le_of_eq (sym (Nat.mul-one g))) (Nat.mul-le-mul_left g C) in
    let t : n + n ≡ (a + a) * 2 ^ low f = sym (Nat.add-mul a a (2 ^ low f)) in
    let b : (a + a) * 2 ^ low f < overflow f =
    Nat.lt_of_lt_of_le (Nat.mul-lt-mul_of_pos_right o (pow_pos (low f)))
    (Nat.le_of_eq (Nat.mul_comm (2 ^ suc (emax f)) (2 ^ low f) ∙ sym (pow-add 2 (low f) (suc (emax f))))) in
    within (prec f) (round f s a c) s a c g (2 ^ low f) (pow_pos (low f))
    (round_value f s a c (Nat.lt_of_le_of_lt (Nat.le_trans e (Nat.le_trans d (Nat.le_of_eq t))) b)) near

-- ---- the quotient of two whole numbers

-- 0 / c is 0
round_nothing : (f : Format) (s : Bool) (c : ℕ) → 0 < c → HasValue (round f s 0 c) s 0 c
round_nothing f s c C = round_exact f s 0 c 0 0 C (pow_pos (prec f)) (pow_pos (low f + suc (emax f))) (Nat.zero-mul (2 ^ low f) ∙ sym (Nat.zero-mul c))

exact_within : (p : ℕ) (x : Float) (s : Bool) (a c : ℕ) → 0 < c → HasValue x s a c → Within p x s a c
exact_within p x s a c C v = within p x s a c a c C v (let e : apart (a * c) (a * c) ≡ 0 = omega arith in rw e (omega (arith, Nat.zero-mul (2 ^ p))))

pub divided : (s : Bool) (a c : ℕ) → 0 < c → a ≤ 2 ^ 53 → c ≤ 2 ^ 53 → Within 53 (round binary64 s a c) s a c
divided s zero c C A B = exact_within 53 (round binary64 s 0 c) s 0 c C (round_nothing binary64 s c C)
divided s (suc a) c C A B =
    let m : 1 * 2 ^ 1074 ≤ suc a * 2 ^ 1074 = Nat.mul-le-mul_right {m = 1} {n = suc a} (2 ^ 1074) (omega arith) in
    round_near binary64 s (suc a) c C (Nat.le_trans (Nat.mul-le-mul_left (2 ^ 52) B) (Nat.le_trans (lit≤ tt) m))
    (Nat.lt_of_le_of_lt (Nat.add-le-add A A) (lit< tt))
