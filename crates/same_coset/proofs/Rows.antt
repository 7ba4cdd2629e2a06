-- The rows that remain of a matrix. Why a run shortens: q times the lower row (c d) is taken from the upper one (a b), which is T^-q on the left, and S
-- exchanges the rows. The new lower row begins with a less the multiple of c nearest to it; where that is negative, both its entries change their sign. The
-- determinant stays 1, which bounds the second column by the first (`right_low`) and makes a matrix whose c is 0 a power of T (`last_is`). In order: one run
-- (`run_is`, `run_unit`); bounds; the last run; the whole matrix (`whole_rows`). Assumes nothing.
use mathlib.Core.Path.{◌≡◌, refl, sym, ap, ◌∙◌}
use mathlib.Core.Logic.{inl, inr}
use mathlib.Core.Bool.{Bool, true, false, not}
use mathlib.Core.List.{List, [], ◌∷◌}
use Prim.Native.Nat.{ℕ, zero, suc, ◌+◌, ◌*◌, ◌≤◌, ◌<◌}
use native.Mathlib.Nat.{mul-le-mul, le_refl}
use native.Mathlib.Omega.{arith}
use native.Mathlib.Decide.{dec_lt}
use lib.IntN.{ℤ, pos, negsuc, neg_ℤ, nat_abs, ◌+ℤ◌, ◌-ℤ◌, ◌*ℤ◌, neg_ℤ-neg_ℤ, -ℤ-+ℤ_cancel}
use lib.Signed.{non_neg}
use Rattle.matrix.specs.Matrix.{Mat, mat, ◌⊗◌, neg, det, mat_s, ◌≈◌}
use Rattle.matrix.specs.Words.{S}
use Rattle.matrix.proofs.Integer.{abs_neg, abs-*, abs-+, one-*}
use Rattle.matrix.proofs.Ring.{Exp, con, var, ◌⊕◌, ◌⊙◌, ⊖◌, ring, MExp, lit, const, ◌⊛◌, ∼◌, ring_m, detᵉ}
use Rattle.matrix.proofs.Matrix.{det-⊗, det_letter, det-≈, ◌∙≈◌}
use Rattle.same_coset.specs.Runs.{power_t}
use Rattle.same_coset.specs.Inner.Rows.{signed, both_or_none, rounds_up, partial_quotient, least_remainder, row_pair, LIMIT, SoundRemaining, Subtracts}
use Rattle.same_coset.specs.declared.t_runs.Remaining.{Remaining}
use Rattle.same_coset.proofs.Powers.{shiftᵉ, det_power_t}
use Rattle.same_coset.proofs.Nearest.{remainder_less, multiple_and_remainder}

-- ---- one run

abbrev signedᵉ : Bool → Exp → Exp
signedᵉ true e = e
signedᵉ false e = ⊖ e

abbrev row_pairᵉ : Bool → (a b c d : Exp) → MExp
row_pairᵉ aligned a b c d = lit a b (signedᵉ aligned c) (signedᵉ aligned d)

-- for a = q c + r, or where it was rounded up for a = q c - r
module _ (r b c d q : ℤ) where
  abbrev values : List ℤ
  values = r ∷ b ∷ c ∷ d ∷ q ∷ []

  abbrev wholeᵉ : (up aligned : Bool) → MExp
  wholeᵉ up aligned = row_pairᵉ aligned (signedᵉ (not up) (var 0) ⊕ var 4 ⊙ var 2) (var 1) (var 2) (var 3)

  abbrev remainingᵉ : (up aligned : Bool) → MExp
  remainingᵉ up aligned = row_pairᵉ (both_or_none up aligned) (var 2) (var 3) (var 0) (signedᵉ (not up) (var 1 ⊕ ⊖ (var 4 ⊙ var 3)))

  run_by : (up aligned : Bool) → power_t (signed aligned q)
      ⊗ (mat_s ⊗ mat c d (signed (both_or_none up aligned) r) (signed (both_or_none up aligned) (signed (not up) (b -ℤ q *ℤ d))))
      ≈ mat (signed (not up) r +ℤ q *ℤ c) b (signed aligned c) (signed aligned d)
  unfolding power_t mat_s
  run_by true true = inl (ring_m values (shiftᵉ (var 4) ⊛ (const mat_s ⊛ remainingᵉ true true)) (wholeᵉ true true) tt)
  run_by false true = inl (ring_m values (shiftᵉ (var 4) ⊛ (const mat_s ⊛ remainingᵉ false true)) (wholeᵉ false true) tt)
  run_by true false = inr (ring_m values (shiftᵉ (⊖ var 4) ⊛ (const mat_s ⊛ remainingᵉ true false)) (∼ wholeᵉ true false) tt)
  run_by false false = inr (ring_m values (shiftᵉ (⊖ var 4) ⊛ (const mat_s ⊛ remainingᵉ false false)) (∼ wholeᵉ false false) tt)

module _ (aligned : Bool) (a : ℕ) (b : ℤ) (c : ℕ) (d : ℤ) (some : 0 < c) where
  abbrev after : Mat
  after = row_pair (both_or_none (rounds_up a c) aligned) c d (least_remainder a c) (signed (not (rounds_up a c)) (b -ℤ pos (partial_quotient a c) *ℤ d))

  pub run_is : power_t (signed aligned (pos (partial_quotient a c))) ⊗ (mat_s ⊗ after) ≈ row_pair aligned a b c d
  run_is =
      run_by (pos (least_remainder a c)) b (pos c) d (pos (partial_quotient a c)) (rounds_up a c) aligned
      ∙≈ inl (ap (λ (i : ℤ). mat i b (signed aligned (pos c)) (signed aligned d)) (multiple_and_remainder a c some))

  pub run_unit : det (row_pair aligned a b c d) ≡ pos 1 → det after ≡ pos 1
  run_unit unit =
      let q = signed aligned (pos (partial_quotient a c)) in
      let kept : det (power_t q ⊗ (mat_s ⊗ after)) ≡ det after =
      cc (det-⊗ (power_t q) (mat_s ⊗ after), det_power_t q, det-⊗ mat_s after, det_letter S, one-* (det after)) in
      sym kept ∙ det-≈ run_is ∙ unit

-- ---- bounds

pub abs_signed : (plus : Bool) (z : ℤ) → nat_abs (signed plus z) ≡ nat_abs z
abs_signed true z = refl
abs_signed false z = abs_neg z

-- one more than y
abs_next : (x y : ℤ) → x -ℤ y ≡ pos 1 → nat_abs x ≤ nat_abs y + 1
abs_next x y e = omega (arith, ap nat_abs (-ℤ-+ℤ_cancel x y), abs-+ (x -ℤ y) y, ap nat_abs e)

-- x is y less their difference
abs_apart : (x y : ℤ) → nat_abs x ≤ nat_abs y + nat_abs (y -ℤ x)
abs_apart x y =
    let apart : x ≡ y +ℤ neg_ℤ (y -ℤ x) = ring (x ∷ y ∷ []) (var 0) (var 1 ⊕ ⊖ (var 1 ⊕ ⊖ var 0)) tt in
    omega (arith, ap nat_abs apart, abs-+ y (neg_ℤ (y -ℤ x)), abs_neg (y -ℤ x))

-- a d is at most b c + 1, where c is below a: so d is no larger than b, or is 1
no_larger : (a b c d most : ℕ) → a * d ≤ b * c + 1 → c < a → b ≤ most → 1 ≤ most → d ≤ most
no_larger a b c d most e less b_low some = elim (dec_lt most d) [
  | yes large ↦ let no : ⊥ = omega (arith, mul-le-mul less large, mul-le-mul b_low (le_refl c)) in absurd no
  | no small ↦ omega arith
]

-- the second column of a matrix of determinant 1 whose first column falls
second_column_low : (aligned : Bool) (a : ℕ) (b : ℤ) (c : ℕ) (d : ℤ) → det (row_pair aligned a b c d) ≡ pos 1 → c < a → nat_abs b ≤ LIMIT → nat_abs d ≤ LIMIT
unfolding det
second_column_low aligned a b c d unit less b_low =
    let near = abs_next (pos a *ℤ signed aligned d) (b *ℤ signed aligned (pos c)) unit in
    let diagonal = abs-* (pos a) (signed aligned d) ∙ ap (λ (i : ℕ). a * i) (abs_signed aligned d) in
    let other = abs-* b (signed aligned (pos c)) ∙ ap (λ (i : ℕ). nat_abs b * i) (abs_signed aligned (pos c)) in
    no_larger a (nat_abs b) c (nat_abs d) LIMIT (omega (arith, near, diagonal, other)) less b_low (omega arith)

module _ {n : ℕ} {x : Remaining} (s : SoundRemaining n x) (some : 0 < x.c) where
  abbrev up : Bool
  up = rounds_up x.a x.c

  abbrev product : ℤ
  product = pos (partial_quotient x.a x.c) *ℤ x.d

  abbrev right : ℤ
  right = x.b -ℤ product

  pub after_unit : det (row_pair (both_or_none up x.aligned) x.c x.d (least_remainder x.a x.c) (signed (not up) right)) ≡ pos 1
  after_unit = run_unit x.aligned x.a x.b x.c x.d some s.unit

  pub signed_right_low : nat_abs (signed (not up) right) ≤ LIMIT
  signed_right_low =
      second_column_low (both_or_none up x.aligned) x.c x.d (least_remainder x.a x.c) (signed (not up) right)
      after_unit (remainder_less x.a x.c some) s.d_low

  pub right_low : nat_abs right ≤ LIMIT
  right_low = omega (arith, signed_right_low, abs_signed (not up) right)

  -- what is subtracted is the difference of two numbers within the limit
  pub subtracts : Subtracts x.b (partial_quotient x.a x.c) x.d
  subtracts = record { product = omega (arith, right_low, s.b_low, abs_apart product x.b); difference = right_low }

-- ---- the last run

factor_one : (i j : ℕ) → i * j ≡ 1 → i ≡ 1
factor_one zero j e = absurd (omega arith)
factor_one (suc i) zero e = absurd (omega arith)
factor_one (suc i) (suc j) e = omega arith

diagonal_one : (a : ℕ) (d : ℤ) → pos a *ℤ d ≡ pos 1 → (a ≡ 1) × (d ≡ pos 1)
diagonal_one a d e =
    let one : a ≡ 1 = factor_one a (nat_abs d) (sym (abs-* (pos a) d) ∙ ap nat_abs e) in
    (one, sym (one-* d) ∙ ap (λ (i : ℕ). pos i *ℤ d) (sym one) ∙ e)

triangular : (a : ℕ) (b d : ℤ) → det (mat (pos a) b (pos 0) d) ≡ pos 1 → mat (pos a) b (pos 0) d ≡ power_t b
unfolding power_t det
triangular a b d unit =
    let m = lit (var 0) (var 1) (con (pos 0)) (var 2) in
    let ones = diagonal_one a d (ring (pos a ∷ b ∷ d ∷ []) (var 0 ⊙ var 2) (detᵉ m) tt ∙ unit) in
    rw (ones.0, ones.1)

pub last_is : (aligned : Bool) (a : ℕ) (b d : ℤ) → det (row_pair aligned a b 0 d) ≡ pos 1 → row_pair aligned a b 0 d ≡ power_t b
last_is true a b d unit = triangular a b d unit
last_is false a b d unit = triangular a b (neg_ℤ d) unit

pub sign_size : (z : ℤ) → signed (non_neg z) (pos (nat_abs z)) ≡ z
sign_size (pos i) = refl
sign_size (negsuc i) = refl

-- ---- the whole matrix

pub whole_rows : (a b c d : ℤ) → let h = non_neg a in let k = non_neg c in
    row_pair (both_or_none h k) (nat_abs a) (signed h b) (nat_abs c) (signed k d) ≈ mat a b c d
unfolding neg
whole_rows (pos a) b (pos c) d = inl refl
whole_rows (pos a) b (negsuc c) d = inl (ap (mat (pos a) b (negsuc c)) (neg_ℤ-neg_ℤ d))
whole_rows (negsuc a) b (pos c) d = inr refl
whole_rows (negsuc a) b (negsuc c) d = inr refl
