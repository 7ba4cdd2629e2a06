-- SUMS AND DIFFERENCES of finite floats that are at most 2⁵² in size are finite, and c - r is at most c + r where r isn't negative, each rounded once.
--
-- In order: a rounded value has the sign that was asked for (`round_signed`), and a negative one is the negative of a positive one (`round_neg`); it
-- is finite where the fraction is at most 2⁵³ (`round_finite`); what a quotient is at most (`bounded`); so sums are finite (`add_finite`,
-- `sub_finite`); the two ends (`ends`).
-- Why: rounding keeps the order, and 2⁵³ is a float.
-- Assumes nothing.
use mathlib.Core.Path.{◌≡◌, refl, sym, ap, ◌∙◌}
use mathlib.Core.Bool.{Bool, true, false, not, ◌&&◌, beq, cond, true≢false}
use Prim.Native.Nat.{ℕ, zero, suc, ◌+◌, ◌-◌, ◌*◌, ◌^◌, ◌≤◌, ◌<◌}
use native.Mathlib.Omega.{arith}
use native.Mathlib.Nat as Nat
use lib.Dec.{T, ltb, lit≤, lit<}
use lib.Pow.{pow_pos}
use lib.Ieee.{Float, nan, inf, fin, Format, binary64, prec, emax, low, up, down, odd, units, round, neg, sum, add, sub, le}
use lib.Ieee.Scale.{finite}
use lib.Ieee.Order.{round_mono}
use lib.Ieee.Exact.{HasValue}
use lib.Ieee.Back.{round_whole}
use lib.Ieee.Fits.{down_pos}
use Rattle.drawing.proofs.Nearest.{Within, at_most_twice}
use Rattle.drawing.proofs.Order.{of_below, neg_le}

-- ---- signs

abbrev pub Signed : Bool → Float → Type 0
Signed s nan = ⊥
Signed s (inf t) = t ≡ s
Signed s (fin t m e) = t ≡ s

odd_signed : (d : ℕ) (s : Bool) (q k l : ℕ) → Signed s (odd d s q k l)
unfolding odd
odd_signed d s zero k l = refl
odd_signed d s (suc q) k l = refl

units_signed : (f : Format) (s : Bool) (q k : ℕ) → Signed s (units f s q k)
unfolding units
units_signed f s q k = go (ltb (q * 2 ^ k) (2 ^ (low f + suc (emax f))))
  where
    go : (b : Bool) → Signed s (cond b (odd (suc (prec f)) s q k (low f)) (inf s))
    go true = odd_signed (suc (prec f)) s q k (low f)
    go false = refl

pub round_signed : (f : Format) (s : Bool) (a c : ℕ) → Signed s (round f s a c)
unfolding round
round_signed f s a c = units_signed f s _ _

odd_neg : (d q k l : ℕ) → odd d true q k l ≡ neg (odd d false q k l)
unfolding odd neg
odd_neg d zero k l = refl
odd_neg d (suc q) k l = refl

units_neg : (f : Format) (q k : ℕ) → units f true q k ≡ neg (units f false q k)
unfolding units neg
units_neg f q k = go (ltb (q * 2 ^ k) (2 ^ (low f + suc (emax f))))
  where
    go : (b : Bool) → cond b (odd (suc (prec f)) true q k (low f)) (inf true) ≡ neg (cond b (odd (suc (prec f)) false q k (low f)) (inf false))
    go true = odd_neg (suc (prec f)) q k (low f)
    go false = refl

round_neg : (f : Format) (a c : ℕ) → round f true a c ≡ neg (round f false a c)
unfolding round
round_neg f a c = units_neg f _ _

-- ---- finite

under_finite : (x y : Float) → Signed false x → T (finite y) → T (le x y) → T (finite x)
unfolding le
under_finite nan y s b h = absurd s
under_finite (inf true) y s b h = absurd (true≢false s)
under_finite (inf false) nan s b h = absurd b
under_finite (inf false) (inf t) s b h = absurd b
under_finite (inf false) (fin t n d) s b h = absurd h
under_finite (fin t m e) y s b h = tt

value_finite : (x : Float) (s : Bool) (a c : ℕ) → HasValue x s a c → T (finite x)
value_finite nan s a c v = v
value_finite (inf t) s a c v = v
value_finite (fin t m e) s a c v = tt

neg_finite : (x : Float) → T (finite x) → T (finite (neg x))
unfolding neg
neg_finite nan h = h
neg_finite (inf s) h = h
neg_finite (fin s m e) h = tt

plus_finite : (a c : ℕ) → 0 < c → a ≤ 2 ^ 53 * c → T (finite (round binary64 false a c))
plus_finite a c C h =
    under_finite (round binary64 false a c) (round binary64 false (2 ^ 53) 1) (round_signed binary64 false a c)
    (value_finite (round binary64 false (2 ^ 53) 1) false (2 ^ 53) 1 (round_whole binary64 false (2 ^ 53) (lit≤ tt)))
    (round_mono binary64 a c (2 ^ 53) 1 C (lit< tt) (Nat.le_trans (Nat.le_of_eq (Nat.mul-one a)) h))

pub round_finite : (s : Bool) (a c : ℕ) → 0 < c → a ≤ 2 ^ 53 * c → T (finite (round binary64 s a c))
round_finite false a c C h = plus_finite a c C h
round_finite true a c C h = rw (round_neg binary64 a c) (neg_finite (round binary64 false a c) (plus_finite a c C h))

-- finite, and at most k in size
abbrev pub Bounded : ℕ → Float → Type 0
Bounded k nan = ⊥
Bounded k (inf s) = ⊥
Bounded k (fin s m e) = m * up e ≤ k * down e

pub bounded : (p k : ℕ) (x : Float) (s : Bool) (a c : ℕ) → 0 < c → Within p x s a c → a + a ≤ k → Bounded k x
bounded p k nan s a c C w h = w
bounded p k (inf t) s a c C w h = w
bounded p k (fin t m e) s a c C w h =
    let M = m * up e in
    let D = down e in
    let once : M ≤ M * c = Nat.le_trans (Nat.le_of_eq (sym (Nat.mul-one M))) (Nat.mul-le-mul_left M C) in
    let near : M * c ≤ a * D + a * D = at_most_twice (M * c) (a * D) (2 ^ p) w.1 (pow_pos p) in
    let both : a * D + a * D ≤ k * D = Nat.le_trans (Nat.le_of_eq (sym (Nat.add-mul a a D))) (Nat.mul-le-mul_right D h) in
    Nat.le_trans once (Nat.le_trans near both)

pub bounded_finite : (k : ℕ) (x : Float) → Bounded k x → T (finite x)
bounded_finite k nan h = h
bounded_finite k (inf s) h = h
bounded_finite k (fin s m e) h = tt

sum_finite : (s : Bool) (a : ℕ) (t : Bool) (b c : ℕ) → 0 < c → a + b ≤ 2 ^ 53 * c → T (finite (sum binary64 s a t b c))
unfolding sum
sum_finite s a t b c C h = go (beq s t) (ltb a b)
  where
    go : (p q : Bool) → T (finite (cond p (round binary64 s (a + b) c) (cond q (round binary64 t (b - a) c) (round binary64 (s && ltb b a) (a - b) c))))
    go true q = round_finite s (a + b) c C h
    go false true = round_finite t (b - a) c C (Nat.le_trans (omega arith) h)
    go false false = round_finite (s && ltb b a) (a - b) c C (Nat.le_trans (omega arith) h)

-- over the common denominator d g
over : (a d b g : ℕ) → a ≤ 2 ^ 52 * d → b ≤ 2 ^ 52 * g → a * g + b * d ≤ 2 ^ 53 * (d * g)
over a d b g h k =
    let x : a * g ≤ 2 ^ 52 * (d * g) = Nat.le_trans (Nat.mul-le-mul_right g h) (Nat.le_of_eq (Nat.mul_assoc (2 ^ 52) d g)) in
    let y : b * d ≤ 2 ^ 52 * (d * g) =
    Nat.le_trans (Nat.mul-le-mul_right d k) (Nat.le_of_eq (Nat.mul_assoc (2 ^ 52) g d ∙ ap (λ (z : ℕ). 2 ^ 52 * z) (Nat.mul_comm g d))) in
    omega (arith, x, y)

pub add_finite : (x y : Float) → Bounded (2 ^ 52) x → Bounded (2 ^ 52) y → T (finite (add binary64 x y))
unfolding add
add_finite nan y h k = absurd h
add_finite (inf s) y h k = absurd h
add_finite (fin s m e) nan h k = absurd k
add_finite (fin s m e) (inf t) h k = absurd k
add_finite (fin s m e) (fin t n d) h k =
    sum_finite s (m * up e * down d) t (n * up d * down e) (down e * down d) (Nat.mul-pos (down_pos e) (down_pos d))
    (over (m * up e) (down e) (n * up d) (down d) h k)

pub sub_finite : (x y : Float) → Bounded (2 ^ 52) x → Bounded (2 ^ 52) y → T (finite (sub binary64 x y))
unfolding sub neg
sub_finite x nan h k = absurd k
sub_finite x (inf t) h k = absurd k
sub_finite x (fin t n d) h k = add_finite x (fin (not t) n d) h k

-- ---- the two ends

-- a minus sign before the one float, a plus before the other: whatever their sizes, they are in order
signed_le : (x y : Float) → T (finite x) → T (finite y) → Signed true x → Signed false y → T (le x y)
unfolding le
signed_le nan y a b s t = absurd a
signed_le (inf i) y a b s t = absurd a
signed_le (fin i m e) nan a b s t = absurd b
signed_le (fin i m e) (inf j) a b s t = absurd b
signed_le (fin i m e) (fin j n d) a b s t = rw (s, t) (of_below true (m * up e * down d) false (n * up d * down e) tt)

module _ (a b c : ℕ) (C : 0 < c) (h : a + b ≤ 2 ^ 53 * c) where
  sum_in_lem : (s : Bool) → T (finite (round binary64 s (a + b) c))
  sum_in_lem s = round_finite s (a + b) c C h

  less_in : (s : Bool) → T (finite (round binary64 s (a - b) c))
  less_in s = round_finite s (a - b) c C (Nat.le_trans (omega arith) h)

  more_in : (s : Bool) → T (finite (round binary64 s (b - a) c))
  more_in s = round_finite s (b - a) c C (Nat.le_trans (omega arith) h)

  rising : T (le (round binary64 false (a - b) c) (round binary64 false (a + b) c))
  rising = round_mono binary64 (a - b) c (a + b) c C C (Nat.mul-le-mul_right c (omega arith))

  falling : T (le (round binary64 true (a + b) c) (round binary64 true (a - b) c))
  falling = rw (round_neg binary64 (a + b) c, round_neg binary64 (a - b) c)
      (neg_le (round binary64 false (a - b) c) (round binary64 false (a + b) c) (less_in false) (sum_in_lem false) rising)

  across : (n m : ℕ) → T (finite (round binary64 true n c)) → T (finite (round binary64 false m c))
      → T (le (round binary64 true n c) (round binary64 false m c))
  across n m x y = signed_le (round binary64 true n c) (round binary64 false m c) x y (round_signed binary64 true n c) (round_signed binary64 false m c)

  ends_right : (p : Bool) → T (le (cond p (round binary64 true (b - a) c) (round binary64 false (a - b) c)) (round binary64 false (a + b) c))
  ends_right true = across (b - a) (a + b) (more_in true) (sum_in_lem false)
  ends_right false = rising

  ends_left : (p q : Bool) → T (le (round binary64 true (a + b) c) (cond p (round binary64 false (b - a) c) (round binary64 (true && q) (a - b) c)))
  ends_left true q = across (a + b) (b - a) (sum_in_lem true) (more_in false)
  ends_left false true = falling
  ends_left false false = across (a + b) (a - b) (sum_in_lem true) (less_in false)

pub ends : (c r : Float) → Bounded (2 ^ 52) c → Bounded (2 ^ 52) r → Signed false r → T (le (sub binary64 c r) (add binary64 c r))
unfolding sub add neg sum
ends nan r h k s = absurd h
ends (inf t) r h k s = absurd h
ends (fin t m e) nan h k s = absurd k
ends (fin t m e) (inf u) h k s = absurd k
ends (fin t m e) (fin true n d) h k s = absurd (true≢false s)
ends (fin false m e) (fin false n d) h k s =
    ends_right (m * up e * down d) (n * up d * down e) (down e * down d) (Nat.mul-pos (down_pos e) (down_pos d))
    (over (m * up e) (down e) (n * up d) (down d) h k)
    (ltb (m * up e * down d) (n * up d * down e))
ends (fin true m e) (fin false n d) h k s =
    ends_left (m * up e * down d) (n * up d * down e) (down e * down d) (Nat.mul-pos (down_pos e) (down_pos d))
    (over (m * up e) (down e) (n * up d) (down d) h k)
    (ltb (m * up e * down d) (n * up d * down e)) (ltb (n * up d * down e) (m * up e * down d))
