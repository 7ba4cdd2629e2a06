-- QUOTIENTS OF WHOLE NUMBERS: both are carried over to floats with nothing lost, and the one division rounds their exact quotient.
--
-- In order: a whole number carried over (`int_value`, `exact`); one division is one rounding (`quotient_is`), so the quotient is near (`near`), finite
-- and at most twice the exact one (`quotient_within`); divided by 1 it is exact (`by_one`).
-- Assumes nothing.
use mathlib.Core.Path.{◌≡◌, refl, sym, ap, ◌∙◌, subst}
use mathlib.Core.Bool.{Bool, true, false, not, cond}
use Prim.Native.Nat.{ℕ, zero, suc, ◌-◌, ◌*◌, ◌^◌, ◌≤◌, ◌<◌}
use native.Mathlib.Omega.{arith}
use native.Mathlib.Nat.{mul-one, mul_comm, mul_assoc, mul_left_comm, mul-pos, zero-mul, lt_irrefl}
use lib.Dec.{T, lit≤, ltb→lt, nltb→le, ltb, eqb, eqb→eq, not_T}
use lib.IntN.{ℤ, pos, negsuc, nat_abs, ◌-ℤ◌, ◌*ℤ◌}
use lib.Ieee.{Float, nan, inf, fin, Format, binary64, up, down, unlike, round, div, of_int}
use lib.Ieee.Fits.{down_pos}
use lib.Ieee.Bits.{cond_no}
use lib.Ieee.Exact.{HasValue}
use lib.Ieee.Back.{round_whole}
use lib.Ieee.Scale.{round_same}
use Rattle.matrix.proofs.Integer.{neg-*-left}
use Rattle.drawing.specs.Quotient.{signed_by, quotient, Exact, Carried, Near}
use Rattle.drawing.proofs.Nearest.{apart, Within, divided}

abbrev pub is_below : ℤ → Bool
is_below (pos n) = false
is_below (negsuc n) = true

-- ---- carried over

int_value : (x : ℤ) → nat_abs x ≤ 2 ^ 53 → HasValue (of_int binary64 x) (is_below x) (nat_abs x) 1
unfolding of_int
int_value (pos n) h = round_whole binary64 false n h
int_value (negsuc n) h = round_whole binary64 true (suc n) h

signed_times : (s : Bool) (a b : ℕ) → signed_by s a *ℤ pos b ≡ signed_by s (a * b)
signed_times false a b = refl
signed_times true a b = neg-*-left (pos a) (pos b)

sign_size : (x : ℤ) → x ≡ signed_by (is_below x) (nat_abs x)
sign_size (pos n) = refl
sign_size (negsuc n) = refl

exact_by : (r : Float) (s : Bool) (a : ℕ) → HasValue r s a 1 → Exact (signed_by s a) r
exact_by nan s a v = absurd v
exact_by (inf t) s a v = absurd v
exact_by (fin t m e) s a v = record {
  is_finite = tt;
  equal =
      ap (λ (u : Bool). signed_by u (m * up e)) v.0 ∙ ap (λ (n : ℕ). signed_by s n) (sym (mul-one (m * up e)) ∙ v.1) ∙ sym (signed_times s a (down e));
}

pub exact : (x : ℤ) → nat_abs x ≤ 2 ^ 53 → Carried x
exact x h = rw (← (sign_size x)) at (exact_by (of_int binary64 x) (is_below x) (nat_abs x) (int_value x h))

-- ---- one division

not_zero : (n : ℕ) (d : ℤ) (b : ℕ) → 0 < b → n * up d * 1 ≡ b * down d → T (not (eqb n 0))
not_zero n d b B h = not_T (eqb n 0) (λ t. let e : n ≡ 0 = eqb→eq n 0 t in
    let z : b * down d ≡ 0 = sym h ∙ ap (λ (y : ℕ). y * up d * 1) e ∙ ap (λ (y : ℕ). y * 1) (zero-mul (up d)) ∙ zero-mul 1 in
    lt_irrefl 0 (subst (λ (x : ℕ). 0 < x) z (mul-pos B (down_pos d))))

divides : (f : Format) (X Y : Float) (s t : Bool) (a b : ℕ) → 0 < b → HasValue X s a 1 → HasValue Y t b 1 → div f X Y ≡ round f (unlike s t) a b
unfolding div
divides f nan Y s t a b B v w = absurd v
divides f (inf i) Y s t a b B v w = absurd v
divides f (fin i m e) nan s t a b B v w = absurd w
divides f (fin i m e) (inf j) s t a b B v w = absurd w
divides f (fin i m e) (fin j n d) s t a b B v w =
    let P = m * up e * down d in
    let Q = n * up d * down e in
    let num : m * up e ≡ a * down e = sym (mul-one (m * up e)) ∙ v.1 in
    let dnm : n * up d ≡ b * down d = sym (mul-one (n * up d)) ∙ w.1 in
    let Q-pos : 0 < Q = subst (λ (x : ℕ). 0 < x * down e) (sym dnm) (mul-pos (mul-pos B (down_pos d)) (down_pos e)) in
    let cross : P * b ≡ a * Q =
    ap (λ (x : ℕ). x * down d * b) num ∙ (simp (mul_assoc, mul_comm, mul_left_comm)) ∙ sym (ap (λ (x : ℕ). a * (x * down e)) dnm) in
    cond_no (eqb n 0) (cond (eqb m 0) nan (inf (unlike i j))) (round f (unlike i j) P Q) (not_zero n d b B w.1)
    ∙ round_same f (unlike i j) P Q a b Q-pos B cross
    ∙ ap (λ (x : Bool). round f (unlike x j) a b) v.0
    ∙ ap (λ (x : Bool). round f (unlike s x) a b) w.0

unlike_plus : (x : ℤ) → unlike (is_below x) false ≡ is_below x
unlike_plus (pos n) = refl
unlike_plus (negsuc n) = refl

pub quotient_is : (x : ℤ) (y : ℕ) → nat_abs x ≤ 2 ^ 53 → 0 < y → y ≤ 2 ^ 53 → quotient x (pos y) ≡ round binary64 (is_below x) (nat_abs x) y
unfolding quotient
quotient_is x y X P Y =
    divides binary64 (of_int binary64 x) (of_int binary64 (pos y)) (is_below x) false (nat_abs x) y P (int_value x X) (int_value (pos y) Y)
    ∙ ap (λ (s : Bool). round binary64 s (nat_abs x) y) (unlike_plus x)

pub quotient_within : (x : ℤ) (y : ℕ) → nat_abs x ≤ 2 ^ 53 → 0 < y → y ≤ 2 ^ 53 → Within 53 (quotient x (pos y)) (is_below x) (nat_abs x) y
quotient_within x y X P Y = subst (λ (r : Float). Within 53 r (is_below x) (nat_abs x) y) (sym (quotient_is x y X P Y))
    (divided (is_below x) (nat_abs x) y P X Y)

-- ---- near, as integers say it

size_by : (a b : ℤ) (t : Bool) (k : ℕ) → (T t → nat_abs a ≡ k) → (T (not t) → nat_abs b ≡ k) → nat_abs (cond t a b) ≡ k
size_by a b true k p q = p tt
size_by a b false k p q = q tt

difference : (a b : ℕ) → nat_abs (pos a -ℤ pos b) ≡ apart a b
difference a zero = omega arith
difference a (suc b) =
    size_by (negsuc (suc b - suc a)) (pos (a - suc b)) (ltb a (suc b)) (apart a (suc b))
    (λ t. let h = ltb→lt a (suc b) t in omega arith) (λ t. let h = nltb→le a (suc b) t in omega arith)

signed_difference : (s : Bool) (a b : ℕ) → nat_abs (signed_by s a -ℤ signed_by s b) ≡ apart a b
signed_difference false a b = difference a b
signed_difference true zero zero = refl
signed_difference true zero (suc b) = omega arith
signed_difference true (suc a) zero = difference 0 (suc a) ∙ (omega arith)
signed_difference true (suc a) (suc b) = difference (suc b) (suc a) ∙ (omega arith)

near_by : (r : Float) (s : Bool) (a c : ℕ) (x : ℤ) → x ≡ signed_by s a → nat_abs x ≡ a → Within 53 r s a c → Near x c r
near_by nan s a c x e n w = absurd w
near_by (inf t) s a c x e n w = absurd w
near_by (fin t m e) s a c x is n w = record {
  is_finite = tt;
  close =
      let P = m * up e in
      let g : nat_abs (signed_by t P *ℤ pos c -ℤ x *ℤ pos (down e)) ≡ apart (P * c) (a * down e) =
      ap (λ (z : Bool). nat_abs (signed_by z P *ℤ pos c -ℤ x *ℤ pos (down e))) w.0
      ∙ ap (λ (z : ℤ). nat_abs (signed_by s P *ℤ pos c -ℤ z *ℤ pos (down e))) is
      ∙ ap (λ (z : ℤ). nat_abs (z -ℤ signed_by s a *ℤ pos (down e))) (signed_times s P c)
      ∙ ap (λ (z : ℤ). nat_abs (signed_by s (P * c) -ℤ z)) (signed_times s a (down e))
      ∙ signed_difference s (P * c) (a * down e) in
      rw (g, n) w.1;
}

pub near : (x : ℤ) (y : ℕ) → nat_abs x ≤ 2 ^ 53 → 0 < y → y ≤ 2 ^ 53 → Near x y (quotient x (pos y))
near x y X P Y = near_by (quotient x (pos y)) (is_below x) (nat_abs x) y x (sign_size x) refl (quotient_within x y X P Y)

-- ---- divided by 1

rounded_whole : (x : ℤ) → round binary64 (is_below x) (nat_abs x) 1 ≡ of_int binary64 x
unfolding of_int
rounded_whole (pos n) = refl
rounded_whole (negsuc n) = refl

pub by_one : (x : ℤ) → nat_abs x ≤ 2 ^ 53 → Exact x (quotient x (pos 1))
by_one x X = rw (quotient_is x 1 X (lit≤ tt) (lit≤ tt) ∙ rounded_whole x) (exact x X)
