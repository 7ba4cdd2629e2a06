-- A DRAWN SIDE, by the two tests that the code makes: which line or arc it is (`line_first`, `line_last`, `arc`), and that its floats are near the exact ones.
--
-- Then what holds of each (`Shaped`): its floats are finite, its ends are in order, and a radius is above 0 (`shaped`); and the place of a line is
-- its finite vertex, exactly, because a neighbour of infinity is a whole number (`exact_place`).
-- Assumes nothing.
use mathlib.Core.Path.{◌≡◌, refl, sym, ◌∙◌, ap, subst}
use mathlib.Core.Logic.{◌⊎◌, inl, inr}
use mathlib.Core.Bool.{true, false, true≢false}
use Prim.Native.Nat.{ℕ, zero, suc, ◌*◌, ◌^◌, ◌≤◌, ◌<◌}
use native.Mathlib.Omega.{arith}
use native.Mathlib.Nat.{zero-mul, mul-one}
use lib.Dec.{T, lit≤, lt→ltb}
use lib.IntN.{ℤ, pos, nat_abs, ◌-ℤ◌, ◌*ℤ◌, *ℤ-zero, +ℤ_idr}
use lib.Ieee.{Float, nan, inf, fin, binary64, up, down, of_int, lt, le}
use lib.Ieee.Fits.{down_pos}
use lib.Ieee.Scale.{finite}
use Rattle.basics.proofs.Choice.{either}
use Rattle.matrix.specs.Matrix.{det}
use Rattle.matrix.proofs.Integer.{abs-*, abs_neg}
use Rattle.matrix.proofs.Bounds.{minus}
use Rattle.symbol.specs.Check.{eq_z}
use Rattle.symbol.specs.Table.{frame}
use Rattle.symbol.specs.declared.Side.{Side}
use Rattle.symbol.proofs.Choice.{eq_z_true}
use Rattle.drawing.specs.Quotient.{quotient, float_of, Near, Exact}
use Rattle.drawing.proofs.Nearest.{apart, Within}
use Rattle.drawing.proofs.Quotient.{is_below, quotient_is, quotient_within, exact, near, by_one}
use Rattle.drawing.proofs.Order.{itself}
use Rattle.drawing.proofs.Sum.{Signed, Bounded, bounded, round_signed, add_finite, sub_finite, ends}
use Rattle.drawing.specs.Drawn.{cross_sum, twice_product, arc_of, drawn_of, place_num, place_den, NearExact, CarriedOver, left_reach, right_reach, height}
use Rattle.drawing.specs.Inner.Ready.{Drawable}
use Rattle.drawing.specs.declared.Drawn.{Drawn}
use Rattle.drawing.specs.declared.Drawn.TheVariants.{Line, Arc}
use Rattle.drawing.proofs.Whole.{none_size, cross_small, twice_small, twice_size, twice_is, twice_in}

-- ---- the three forms

module _ (s : Side) (h : Drawable s) where
  pub line_first : eq_z s.b (pos 0) ≡ true → (Line (quotient s.c s.d) ≡ drawn_of s) × NearExact s (Line (quotient s.c s.d))
  line_first e =
      let n : Near s.c (nat_abs s.d) (quotient s.c s.d) =
      rw (← h.natural_d) at (near s.c (nat_abs s.d) (omega arith) (omega (arith, none_size s.b e)) (omega arith)) in
      rw e (refl, n)

  pub line_last : eq_z s.b (pos 0) ≡ false → eq_z s.d (pos 0) ≡ true
      → (Line (quotient s.a s.b) ≡ drawn_of s) × NearExact s (Line (quotient s.a s.b))
  line_last e f =
      let n : Near s.a (nat_abs s.b) (quotient s.a s.b) =
      rw (← h.natural_b) at (near s.a (nat_abs s.b) (omega arith) (omega (arith, none_size s.d f)) (omega arith)) in
      rw (e, f) (refl, n)

  pub arc : eq_z s.b (pos 0) ≡ false → eq_z s.d (pos 0) ≡ false → (arc_of s ≡ drawn_of s) × NearExact s (arc_of s)
  arc e f =
      let n = twice_size s h in
      let d = twice_in s h e f in
      let centre : Near (cross_sum s) n (quotient (cross_sum s) (twice_product s)) =
      rw (twice_is s h) (near (cross_sum s) n (omega (arith, cross_small s h)) d.0 d.1) in
      let radius : Near (pos 1) n (quotient (pos 1) (twice_product s)) = rw (twice_is s h) (near (pos 1) n (lit≤ tt) d.0 d.1) in
      rw (e, f) (refl, (centre, radius))

  by_tests : (P : Drawn → Type 0)
      → (eq_z s.b (pos 0) ≡ true → P (Line (quotient s.c s.d)))
      → (eq_z s.b (pos 0) ≡ false → eq_z s.d (pos 0) ≡ true → P (Line (quotient s.a s.b)))
      → (eq_z s.b (pos 0) ≡ false → eq_z s.d (pos 0) ≡ false → P (arc_of s))
      → P (drawn_of s)
  by_tests P p q r = go (either (eq_z s.b (pos 0))) (either (eq_z s.d (pos 0)))
    where
      go : (eq_z s.b (pos 0) ≡ true) ⊎ (eq_z s.b (pos 0) ≡ false) → (eq_z s.d (pos 0) ≡ true) ⊎ (eq_z s.d (pos 0) ≡ false) → P (drawn_of s)
      go (inl e) f = subst P (line_first e).0 (p e)
      go (inr e) (inl f) = subst P (line_last e f).0 (q e f)
      go (inr e) (inr f) = subst P (arc e f).0 (r e f)

  -- all of them are at most 2⁵³ in size
  pub carried_over : CarriedOver s
  carried_over = record {
    cross_sum_is = exact (cross_sum s) (omega (arith, cross_small s h));
    twice_product_is = exact (twice_product s) (omega (arith, twice_small s h));
    one = exact (pos 1) (lit≤ tt);
    left_numerator = exact s.a (omega arith);
    left_denominator = exact s.b (omega arith);
    right_numerator = exact s.c (omega arith);
    right_denominator = exact s.d (omega arith);
  }

  pub near_exact : NearExact s (drawn_of s)
  near_exact = by_tests (NearExact s) (λ e. (line_first e).1) (λ e f. (line_last e f).1) (λ e f. (arc e f).1)

-- ---- finite floats, ends in order, radii above 0

pub record Shaped (r : Drawn) : Type 0 where
  pub left_finite : T (finite (left_reach r))
  pub right_finite : T (finite (right_reach r))
  pub height_finite : T (finite (height r))
  pub in_order_is : T (le (left_reach r) (right_reach r))
  pub rises : (c r' : Float) → r ≡ Arc c r' → T (lt (float_of 0) r')

zero_float : float_of 0 ≡ fin false 0 (pos 0)
unfolding float_of of_int
zero_float = refl

pub zero_finite : T (finite (float_of 0))
zero_finite = rw zero_float tt

some_digits : (m c q : ℕ) → 0 < q → apart (m * c) (1 * q) * 2 ^ 53 ≤ 1 * q → 0 < m
some_digits zero c q Q h = absurd (omega (arith, zero-mul c))
some_digits (suc m) c q Q h = omega arith

-- what is near 1 / c is above 0
above_zero : (x : Float) (c : ℕ) → Within 53 x false 1 c → T (lt (float_of 0) x)
unfolding lt
above_zero nan c w = absurd w
above_zero (inf t) c w = absurd w
above_zero (fin true m e) c w = absurd (true≢false w.0)
above_zero (fin false m e) c w =
    let p = some_digits (m * up e) c (down e) (down_pos e) w.1 in
    rw zero_float (lt→ltb (0 * down e) (m * up e * 1) (omega (arith, zero-mul (down e), mul-one (m * up e))))

line_no_arc : (x c r : Float) → Line x ≡ Arc c r → ⊥
line_no_arc x c r e = let z : ◌≡◌ {A = ℕ} 0 1 = cc in omega arith

same_radius : (a b c r : Float) → Arc a b ≡ Arc c r → b ≡ r
same_radius a b c r e = cc

same_place : (x y : Float) → Line x ≡ Line y → x ≡ y
same_place x y e = cc

shaped_line : (x : ℤ) (y : ℕ) → nat_abs x ≤ 2 ^ 53 → 0 < y → y ≤ 2 ^ 53 → Shaped (Line (quotient x (pos y)))
shaped_line x y X P Y =
    let q = quotient x (pos y) in
    let f : T (finite q) = (near x y X P Y).is_finite in
    record { left_finite = f; right_finite = f; height_finite = zero_finite; in_order_is = itself q f; rises = λ c r e. absurd (line_no_arc q c r e) }

shaped_arc : (x : ℤ) (y : ℕ) → nat_abs x ≤ 2251799813685248 → 0 < y → y ≤ 2 ^ 53 → Shaped (Arc (quotient x (pos y)) (quotient (pos 1) (pos y)))
shaped_arc x y X P Y =
    let c = quotient x (pos y) in
    let r = quotient (pos 1) (pos y) in
    let w = quotient_within x y (omega arith) P Y in
    let u = quotient_within (pos 1) y (lit≤ tt) P Y in
    let c_in : Bounded (2 ^ 52) c = bounded 53 (2 ^ 52) c (is_below x) (nat_abs x) y P w (omega arith) in
    let r_in : Bounded (2 ^ 52) r = bounded 53 (2 ^ 52) r false 1 y P u (lit≤ tt) in
    let sign : Signed false r = rw (quotient_is (pos 1) y (lit≤ tt) P Y) (round_signed binary64 false 1 y) in
    record {
      left_finite = sub_finite c r c_in r_in;
      right_finite = add_finite c r c_in r_in;
      height_finite = (near (pos 1) y (lit≤ tt) P Y).is_finite;
      in_order_is = ends c r c_in r_in sign;
      rises = λ c' r' e. rw (same_radius c r c' r' e) at (above_zero r y u);
    }

module _ (s : Side) (h : Drawable s) where
  pub shaped : Shaped (drawn_of s)
  shaped =
      by_tests s h Shaped
      (λ e. rw (← h.natural_d) at (shaped_line s.c (nat_abs s.d) (omega arith) (omega (arith, none_size s.b e)) (omega arith)))
      (λ e f. rw (← h.natural_b) at (shaped_line s.a (nat_abs s.b) (omega arith) (omega (arith, none_size s.d f)) (omega arith)))
      (λ e f. let d = twice_in s h e f in rw (twice_is s h) (shaped_arc (cross_sum s) (twice_size s h) (cross_small s h) d.0 d.1))

  -- ---- lines: where an end has the denominator 0, the other has 1, by the determinant

  factor_one : (m n : ℕ) → m * n ≡ 1 → n ≡ 1
  factor_one zero n e = absurd (omega (arith, zero-mul n))
  factor_one (suc m) zero e = absurd (omega arith)
  factor_one (suc m) (suc zero) e = refl
  factor_one (suc m) (suc (suc n)) e = absurd (omega arith)

  right_whole : eq_z s.b (pos 0) ≡ true → det (frame s) ≡ pos 1 → s.d ≡ pos 1
  unfolding det
  right_whole e g =
      let z : s.b ≡ pos 0 = eq_z_true s.b (pos 0) e in
      let n : nat_abs s.a * nat_abs s.d ≡ 1 =
      sym (abs-* s.a s.d) ∙ sym (abs_neg (s.a *ℤ s.d)) ∙ ap nat_abs (sym (minus (s.a *ℤ s.d)))
      ∙ ap (λ (x : ℤ). nat_abs (x -ℤ s.a *ℤ s.d)) (sym (*ℤ-zero s.c)) ∙ ap (λ (x : ℤ). nat_abs (s.c *ℤ x -ℤ s.a *ℤ s.d)) (sym z) ∙ ap nat_abs g in
      h.natural_d ∙ ap pos (factor_one (nat_abs s.a) (nat_abs s.d) n)

  left_whole : eq_z s.d (pos 0) ≡ true → det (frame s) ≡ pos 1 → s.b ≡ pos 1
  unfolding det
  left_whole e g =
      let z : s.d ≡ pos 0 = eq_z_true s.d (pos 0) e in
      let p : s.c *ℤ s.b -ℤ s.a *ℤ pos 0 ≡ s.c *ℤ s.b = ap (λ (x : ℤ). s.c *ℤ s.b -ℤ x) (*ℤ-zero s.a) ∙ +ℤ_idr (s.c *ℤ s.b) in
      let n : nat_abs s.c * nat_abs s.b ≡ 1 =
      sym (abs-* s.c s.b) ∙ ap nat_abs (sym p) ∙ ap (λ (x : ℤ). nat_abs (s.c *ℤ s.b -ℤ s.a *ℤ x)) (sym z) ∙ ap nat_abs g in
      h.natural_b ∙ ap pos (factor_one (nat_abs s.c) (nat_abs s.b) n)

  abbrev ExactPlace : Drawn → Type 0
  ExactPlace r = (x : Float) → r ≡ Line x → (place_den s ≡ 1) × Exact (place_num s) x

  pub exact_place : det (frame s) ≡ pos 1 → (x : Float) → drawn_of s ≡ Line x → (place_den s ≡ 1) × Exact (place_num s) x
  exact_place g =
      by_tests s h ExactPlace
      (λ e x k. let p : Exact s.c (quotient s.c s.d) = rw (right_whole e g) (by_one s.c (omega arith)) in
      rw (e, ← (same_place (quotient s.c s.d) x k)) (ap nat_abs (right_whole e g), p))
      (λ e f x k. let p : Exact s.a (quotient s.a s.b) = rw (left_whole f g) (by_one s.a (omega arith)) in
      rw (e, ← (same_place (quotient s.a s.b) x k)) (ap nat_abs (left_whole f g), p))
      (λ e f x k. absurd (line_no_arc x (quotient (cross_sum s) (twice_product s)) (quotient (pos 1) (twice_product s)) (sym k)))
