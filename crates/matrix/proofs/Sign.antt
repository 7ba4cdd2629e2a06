-- The signs of an alternating word's matrix: they are two bits over its form, one of which tells whether it begins with a power of Q.
--
-- In order: a form with signs (`signed`); the values of words (`tail_value`, `head_value_Q`, `head_value_P`); the form and the agreement
-- of rows are read off a matrix whatever its sign (`sizes-≈`, `agree-≈`), and off a signed form (`sizes_signed`, `agree_tail`,
-- `agree_head`); the sign of the second column is fixed by the determinant (`same_sign`).
-- Assumes nothing.
use mathlib.Core.Path.{◌≡◌, refl, sym, ◌∙◌, ap}
use mathlib.Core.Logic.{inl, inr}
use mathlib.Core.Bool.{Bool, true, false, ◌||◌}
use mathlib.Core.List.{List, [], ◌∷◌}
use Prim.Native.Nat.{ℕ, zero, suc, ◌+◌, ◌*◌, ◌<◌}
use native.Mathlib.Omega.{arith}
use lib.IntN.{ℤ, pos, neg_ℤ, nat_abs, ◌*ℤ◌, pos-ne-negsuc}
use Rattle.matrix.specs.Matrix.{Mat, mat, ◌⊗◌, 𝟙, neg, adj, det, mat_s, mat_q, mat_p, ◌≈◌}
use Rattle.matrix.specs.Words.{Letter, Q, P, letter, value}
use Rattle.matrix.specs.Euclid.{Form, sizes, swap, positive, agree}
use Rattle.matrix.proofs.Integer.{abs_neg}
use Rattle.matrix.proofs.Ring.{Exp, var, ◌⊕◌, ◌⊙◌, ⊖◌, ring, MExp, lit, const, ◌⊛◌, ∼◌, ring_m, detᵉ}
use Rattle.matrix.proofs.Matrix.{⊗-idr, det_𝟙, det_letter, det_one, ◌∙≈◌, ≈-left}
use Rattle.matrix.proofs.Form.{Tail, stop, last, sq, sp, letters, upper, lower, tail_form, form_eq}

-- ---- a form with signs

abbrev pub flip : Bool → ℤ → ℤ
flip true z = z
flip false z = neg_ℤ z

-- k is the sign of the second row, s that of the second column
abbrev pub signed : Bool → Bool → Form → Mat
signed k s f = mat (pos f.p) (flip s (pos f.q)) (flip k (pos f.r)) (flip k (flip s (pos f.t)))

-- the same over the variables p, q, r, t
abbrev signᵉ : Bool → Exp → Exp
signᵉ true e = e
signᵉ false e = ⊖ e

abbrev signedᵉ : Bool → Bool → Exp → Exp → Exp → Exp → MExp
signedᵉ k s p q r t = lit p (signᵉ s q) (signᵉ k r) (signᵉ k (signᵉ s t))

abbrev env : Form → List ℤ
env f = pos f.p ∷ pos f.q ∷ pos f.r ∷ pos f.t ∷ []

abbrev tailᵉ : Bool → MExp
tailᵉ s = signedᵉ false s (var 0) (var 1) (var 2) (var 3)

-- S Q and S P add a row to the other; Q alone and P alone make the rows agree
pub S_Q_signed : (s : Bool) (f : Form) → mat_s ⊗ (mat_q ⊗ signed false s f) ≡ neg (signed false s (upper f))
unfolding mat_s mat_q
S_Q_signed true f = ring_m (env f) (const mat_s ⊛ (const mat_q ⊛ tailᵉ true)) (∼ signedᵉ false true (var 0 ⊕ var 2) (var 1 ⊕ var 3) (var 2) (var 3)) tt
S_Q_signed false f = ring_m (env f) (const mat_s ⊛ (const mat_q ⊛ tailᵉ false)) (∼ signedᵉ false false (var 0 ⊕ var 2) (var 1 ⊕ var 3) (var 2) (var 3)) tt

pub S_P_signed : (s : Bool) (f : Form) → mat_s ⊗ (mat_p ⊗ signed false s f) ≡ signed false s (lower f)
unfolding adj mat_s mat_q mat_p
S_P_signed true f = ring_m (env f) (const mat_s ⊛ (const mat_p ⊛ tailᵉ true)) (signedᵉ false true (var 0) (var 1) (var 2 ⊕ var 0) (var 3 ⊕ var 1)) tt
S_P_signed false f = ring_m (env f) (const mat_s ⊛ (const mat_p ⊛ tailᵉ false)) (signedᵉ false false (var 0) (var 1) (var 2 ⊕ var 0) (var 3 ⊕ var 1)) tt

pub Q_signed : (s : Bool) (f : Form) → mat_q ⊗ signed false s f ≡ signed true s (swap (upper f))
unfolding mat_q
Q_signed true f = ring_m (env f) (const mat_q ⊛ tailᵉ true) (signedᵉ true true (var 2) (var 3) (var 0 ⊕ var 2) (var 1 ⊕ var 3)) tt
Q_signed false f = ring_m (env f) (const mat_q ⊛ tailᵉ false) (signedᵉ true false (var 2) (var 3) (var 0 ⊕ var 2) (var 1 ⊕ var 3)) tt

pub P_signed : (s : Bool) (f : Form) → mat_p ⊗ signed false s f ≡ neg (signed true s (swap (lower f)))
unfolding adj mat_q mat_p
P_signed true f = ring_m (env f) (const mat_p ⊛ tailᵉ true) (∼ signedᵉ true true (var 2 ⊕ var 0) (var 3 ⊕ var 1) (var 0) (var 1)) tt
P_signed false f = ring_m (env f) (const mat_p ⊛ tailᵉ false) (∼ signedᵉ true false (var 2 ⊕ var 0) (var 3 ⊕ var 1) (var 0) (var 1)) tt

-- ---- the values of words

abbrev pub sign : Tail → Bool
sign stop = false
sign last = true
sign (sq w) = sign w
sign (sp w) = sign w

pub tail_value : (w : Tail) → value (letters w) ≈ signed false (sign w) (tail_form w)
unfolding 𝟙 neg mat_s
tail_value stop = inl refl
tail_value last = inr (⊗-idr mat_s)
tail_value (sq w) = ≈-left mat_s (≈-left mat_q (tail_value w)) ∙≈ inr (S_Q_signed (sign w) (tail_form w))
tail_value (sp w) = ≈-left mat_s (≈-left mat_p (tail_value w)) ∙≈ inl (S_P_signed (sign w) (tail_form w))

pub head_value_Q : (w : Tail) → value (Q ∷ letters w) ≈ signed true (sign w) (swap (upper (tail_form w)))
head_value_Q w = ≈-left mat_q (tail_value w) ∙≈ inl (Q_signed (sign w) (tail_form w))

pub head_value_P : (w : Tail) → value (P ∷ letters w) ≈ signed true (sign w) (swap (lower (tail_form w)))
head_value_P w = ≈-left mat_p (tail_value w) ∙≈ inr (P_signed (sign w) (tail_form w))

-- ---- what is read off a matrix is blind to its sign

pub sizes_neg : (m : Mat) → sizes (neg m) ≡ sizes m
unfolding neg
sizes_neg m = form_eq (abs_neg m.a) (abs_neg m.b) (abs_neg m.c) (abs_neg m.d)

pub sizes-≈ : {m n : Mat} → m ≈ n → sizes m ≡ sizes n
sizes-≈ (inl e) = ap sizes e
sizes-≈ {n} (inr e) = ap sizes e ∙ sizes_neg n

neg_neg-* : (x y : ℤ) → neg_ℤ x *ℤ neg_ℤ y ≡ x *ℤ y
neg_neg-* x y = ring (x ∷ y ∷ []) (⊖ var 0 ⊙ ⊖ var 1) (var 0 ⊙ var 1) tt

pub agree_neg : (m : Mat) → agree (neg m) ≡ agree m
unfolding neg
agree_neg m = cc (neg_neg-* m.a m.c, neg_neg-* m.b m.d)

pub agree-≈ : {m n : Mat} → m ≈ n → agree m ≡ agree n
agree-≈ (inl e) = ap agree e
agree-≈ {n} (inr e) = ap agree e ∙ agree_neg n

-- ---- what is read off a signed form

abs_flip : (s : Bool) (z : ℤ) → nat_abs (flip s z) ≡ nat_abs z
abs_flip true z = refl
abs_flip false z = abs_neg z

pub sizes_signed : (k s : Bool) (f : Form) → sizes (signed k s f) ≡ f
sizes_signed k s f = form_eq refl (abs_flip s (pos f.q)) (abs_flip k (pos f.r)) (abs_flip k (flip s (pos f.t)) ∙ abs_flip s (pos f.t))

negative : (n : ℕ) → positive (neg_ℤ (pos n)) ≡ false
negative zero = refl
negative (suc n) = refl

above : (n : ℕ) → 0 < n → positive (pos n) ≡ true
above zero h = absurd (omega arith)
above (suc n) h = refl

-- the product of a column's entries, its signs apart
column : (k s : Bool) (x y : ℕ) → flip s (pos x) *ℤ flip k (flip s (pos y)) ≡ flip k (pos (x * y))
column true true x y = refl
column true false x y = neg_neg-* (pos x) (pos y)
column false true x y = ring (pos x ∷ pos y ∷ []) (var 0 ⊙ ⊖ var 1) (⊖ (var 0 ⊙ var 1)) tt
column false false x y = ring (pos x ∷ pos y ∷ []) (⊖ var 0 ⊙ ⊖ ⊖ var 1) (⊖ (var 0 ⊙ var 1)) tt

agree_signed : (k s : Bool) (f : Form) → agree (signed k s f) ≡ (positive (flip k (pos (f.p * f.r))) || positive (flip k (pos (f.q * f.t))))
agree_signed k s f = cc (column k true f.p f.r, column k s f.q f.t)

pub agree_tail : (s : Bool) (f : Form) → agree (signed false s f) ≡ false
agree_tail s f = agree_signed false s f ∙ cc (negative (f.p * f.r), negative (f.q * f.t))

pub agree_head : (s : Bool) (f : Form) → 0 < f.p * f.r + f.q * f.t → agree (signed true s f) ≡ true
agree_head s f h = agree_signed true s f ∙ go (f.p * f.r) (f.q * f.t) h
  where
    go : (x y : ℕ) → 0 < x + y → (positive (pos x) || positive (pos y)) ≡ true
    go zero y h = above y (omega arith)
    go (suc x) y h = refl

-- ---- the sign of the second column is fixed by the determinant

det_other : (k : Bool) (f : Form) → det (signed k false f) ≡ neg_ℤ (det (signed k true f))
unfolding det
det_other true f = ring (env f) (detᵉ (signedᵉ true false (var 0) (var 1) (var 2) (var 3))) (⊖ detᵉ (signedᵉ true true (var 0) (var 1) (var 2) (var 3))) tt
det_other false f = ring (env f) (detᵉ (signedᵉ false false (var 0) (var 1) (var 2) (var 3))) (⊖ detᵉ (signedᵉ false true (var 0) (var 1) (var 2) (var 3))) tt

never : (k : Bool) (f : Form) → det (signed k true f) ≡ pos 1 → det (signed k false f) ≡ pos 1 → ⊥
never k f d e = pos-ne-negsuc 1 0 (sym e ∙ det_other k f ∙ ap neg_ℤ d)

pub same_sign : (k s s' : Bool) (f : Form) → det (signed k s f) ≡ pos 1 → det (signed k s' f) ≡ pos 1 → s ≡ s'
same_sign k true true f d e = refl
same_sign k true false f d e = absurd (never k f d e)
same_sign k false true f d e = absurd (never k f e d)
same_sign k false false f d e = refl

-- ---- words have determinant 1

pub det_value : (l : List Letter) → det (value l) ≡ pos 1
det_value [] = det_𝟙
det_value (x ∷ l) = det_one (letter x) (value l) (det_letter x) (det_value l)
