-- Signs: their product, and signs in front of matrices.
--
-- In order: the product of signs (`·-self`, `·-plus`, `·-comm`); signs in products (`sign_sign`, `sign_left_lem`, `sign_right`,
-- `sign_back`); a sign is an equality up to sign (`sign-≈`); S there and back (`S_back`); conjugation by m and by -m is the same
-- (`conjugate`); a matrix of determinant 1 is not its own negative (`one_sign`).
-- Assumes nothing.
use mathlib.Core.Path.{◌≡◌, refl, sym, ◌∙◌, ap}
use mathlib.Core.Logic.{inl, inr}
use mathlib.Core.Bool.{Bool, true, false, not}
use mathlib.Core.List.{[], ◌∷◌}
use Prim.Native.Nat.{ℕ, zero, suc}
use native.Mathlib.Omega.{arith}
use lib.IntN.{ℤ, pos, negsuc, neg_ℤ, nat_abs, ◌*ℤ◌, ◌-ℤ◌, pos-ne-negsuc}
use Rattle.matrix.specs.Matrix.{Mat, ◌⊗◌, 𝟙, neg, adj, det, mat_s, ◌≈◌}
use Rattle.matrix.proofs.Matrix.{with, ⊗-assoc, ⊗-idr, neg_neg, neg-⊗, ⊗-neg, S_S}
use Rattle.matrix.proofs.Ring.{con, var, ◌⊕◌, ◌⊙◌, ⊖◌, ring, ◌⊛◌, ∼◌, adjᵉ, block, ring_m}
use Rattle.signs.specs.Sign.{plus, minus, ◌·◌, with_sign}

-- ---- the product of signs

·-self : (s : Bool) → s · s ≡ plus
·-self true = refl
·-self false = refl

pub ·-plus : (s : Bool) → s · plus ≡ s
·-plus true = refl
·-plus false = refl

pub ·-comm : (s r : Bool) → s · r ≡ r · s
·-comm true r = sym (·-plus r)
·-comm false true = refl
·-comm false false = refl

-- ---- signs in front of matrices

pub sign_sign : (s r : Bool) (m : Mat) → with_sign s (with_sign r m) ≡ with_sign (s · r) m
sign_sign true r m = refl
sign_sign false true m = refl
sign_sign false false m = neg_neg m

pub sign_left_lem : (s : Bool) (m n : Mat) → with_sign s m ⊗ n ≡ with_sign s (m ⊗ n)
sign_left_lem true m n = refl
sign_left_lem false m n = neg-⊗ m n

pub sign_right : (s : Bool) (m n : Mat) → m ⊗ with_sign s n ≡ with_sign s (m ⊗ n)
sign_right true m n = refl
sign_right false m n = ⊗-neg m n

-- from m = s n to n = s m
pub sign_back : (s : Bool) (m n : Mat) → m ≡ with_sign s n → n ≡ with_sign s m
sign_back s m n e = ap (λ (b : Bool). with_sign b n) (sym (·-self s)) ∙ sym (sign_sign s s n) ∙ ap (with_sign s) (sym e)

pub sign-≈ : (s : Bool) (m : Mat) → with_sign s m ≈ m
sign-≈ true m = inl refl
sign-≈ false m = inr refl

-- ---- S there and back, and conjugation

pub S_S_is : (m : Mat) → m ⊗ mat_s ⊗ mat_s ≡ neg m
S_S_is m = ⊗-assoc m mat_s mat_s ∙ ap (λ (n : Mat). m ⊗ n) S_S ∙ ⊗-neg m 𝟙 ∙ ap neg (⊗-idr m)

-- from m S = s n to n S = -s m
pub S_back : (s : Bool) (m n : Mat) → m ⊗ mat_s ≡ with_sign s n → n ⊗ mat_s ≡ with_sign (not s) m
S_back s m n e =
    ap (λ (x : Mat). x ⊗ mat_s) (sign_back s (m ⊗ mat_s) n e)
    ∙ sign_left_lem s (m ⊗ mat_s) mat_s
    ∙ ap (with_sign s) (S_S_is m)
    ∙ sign_sign s minus m
    ∙ ap (λ (b : Bool). with_sign b m) (·-comm s minus)

conjugate_neg : (m n : Mat) → adj (neg n) ⊗ (m ⊗ neg n) ≡ adj n ⊗ (m ⊗ n)
conjugate_neg m n = ring_m (with m (with n [])) (adjᵉ (∼ block 4) ⊛ (block 0 ⊛ ∼ block 4)) (adjᵉ (block 4) ⊛ (block 0 ⊛ block 4)) tt

pub conjugate : (m : Mat) {x y : Mat} → x ≈ y → adj x ⊗ (m ⊗ x) ≡ adj y ⊗ (m ⊗ y)
conjugate m (inl e) = ap (λ (z : Mat). adj z ⊗ (m ⊗ z)) e
conjugate m {y} (inr e) = ap (λ (z : Mat). adj z ⊗ (m ⊗ z)) e ∙ conjugate_neg m y

-- ---- one sign

own_negative : (x : ℤ) → x ≡ neg_ℤ x → x ≡ pos 0
own_negative (pos zero) e = refl
own_negative (pos (suc n)) e = absurd (pos-ne-negsuc (suc n) n e)
own_negative (negsuc n) e = absurd (pos-ne-negsuc (suc n) n (sym e))

-- with a first row of zeros the determinant would be 0
not_negative : (m : Mat) → det m ≡ pos 1 → m ≡ neg m → ⊥
unfolding neg det
not_negative m d e =
    let a : m.a ≡ pos 0 = own_negative m.a (ap (λ (x : Mat). x.a) e) in
    let b : m.b ≡ pos 0 = own_negative m.b (ap (λ (x : Mat). x.b) e) in
    let z : pos 0 *ℤ m.d -ℤ pos 0 *ℤ m.c ≡ pos 1 = rw (a, b) at d in
    let y : pos 0 ≡ pos 1 = sym (ring (m.d ∷ m.c ∷ []) (con (pos 0) ⊙ var 0 ⊕ ⊖ (con (pos 0) ⊙ var 1)) (con (pos 0)) tt) ∙ z in
    let n : ◌≡◌ {A = ℕ} 0 1 = ap nat_abs y in
    omega arith

pub one_sign : (s r : Bool) (m : Mat) → det m ≡ pos 1 → with_sign s m ≡ with_sign r m → s ≡ r
one_sign true true m d e = refl
one_sign true false m d e = absurd (not_negative m d e)
one_sign false true m d e = absurd (not_negative m d (sym e))
one_sign false false m d e = refl
