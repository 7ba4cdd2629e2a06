-- The laws of the ring ℤ that the kit's integers lack.
--
-- In order: what grows by k with each unit is linear (`linear`); the distributive laws, the sign of a product, associativity;
-- the unit; sums and products rearranged; equality from a difference of 0; sizes (`nat_abs`) of a negative, a product and a sum.
--
-- Not here: the group laws of the sum and the commutative law of the product (`lib.IntN`).
-- Why: every law says that two functions of one factor are equal, and both grow by the same amount with each unit of that factor.
-- Assumes nothing.
use mathlib.Core.Path.{◌≡◌, refl, sym, ◌∙◌, ap}
use mathlib.Core.Bool.{Bool, true, false, cond}
use Prim.Native.Nat.{ℕ, zero, suc, ◌+◌, ◌*◌, ◌-◌, ◌≤◌}
use native.Mathlib.Omega.{arith}
use lib.Dec.{ltb}
use lib.IntN.{ℤ, pos, negsuc, suc_ℤ, pred_ℤ, neg_ℤ, nat_abs, sub_ℕ, one, ◌+ℤ◌, ◌*ℤ◌, ◌-ℤ◌, suc_ℤ-+ℤ, pred_ℤ-+ℤ, suc_ℤ-*ℤ, pred_ℤ-*ℤ, +ℤ_idl, +ℤ_idr, +ℤ_assoc}
use lib.IntN.{+ℤ_comm, +ℤ_invl, zero-*ℤ, *ℤ-one, *ℤ_comm, -ℤ-+ℤ_cancel, +ℤ-neg_ℤ_cancel}

module _ (f : ℤ → ℤ) (k : ℤ) (up : (x : ℤ) → f (suc_ℤ x) ≡ f x +ℤ k) (down : (x : ℤ) → f (pred_ℤ x) ≡ f x -ℤ k) where
  abbrev line : ℤ → ℤ
  line x = f (pos 0) +ℤ x *ℤ k

  line_up : (x : ℤ) → f x ≡ line x → f (suc_ℤ x) ≡ line (suc_ℤ x)
  line_up x e = up x ∙ ap (λ (y : ℤ). y +ℤ k) e ∙ +ℤ_assoc (f (pos 0)) (x *ℤ k) k ∙ ap (λ (y : ℤ). f (pos 0) +ℤ y) (sym (suc_ℤ-*ℤ x k))

  line_down : (x : ℤ) → f x ≡ line x → f (pred_ℤ x) ≡ line (pred_ℤ x)
  line_down x e = down x ∙ ap (λ (y : ℤ). y -ℤ k) e ∙ +ℤ_assoc (f (pos 0)) (x *ℤ k) (neg_ℤ k) ∙ ap (λ (y : ℤ). f (pos 0) +ℤ y) (sym (pred_ℤ-*ℤ x k))

  pub linear : (x : ℤ) → f x ≡ f (pos 0) +ℤ x *ℤ k
  linear (pos zero) = sym (ap (λ (y : ℤ). f (pos 0) +ℤ y) (zero-*ℤ k) ∙ +ℤ_idr (f (pos 0)))
  linear (pos (suc n)) = line_up (pos n) (linear (pos n))
  linear (negsuc zero) = line_down (pos zero) (sym (ap (λ (y : ℤ). f (pos 0) +ℤ y) (zero-*ℤ k) ∙ +ℤ_idr (f (pos 0))))
  linear (negsuc (suc n)) = line_down (negsuc n) (linear (negsuc n))

-- ---- the distributive laws

pub *-+-right : (a b c : ℤ) → (a +ℤ b) *ℤ c ≡ a *ℤ c +ℤ b *ℤ c
*-+-right a b c =
    linear (λ (x : ℤ). (x +ℤ b) *ℤ c) c
    (λ x. ap (λ (y : ℤ). y *ℤ c) (suc_ℤ-+ℤ x b) ∙ suc_ℤ-*ℤ (x +ℤ b) c)
    (λ x. ap (λ (y : ℤ). y *ℤ c) (pred_ℤ-+ℤ x b) ∙ pred_ℤ-*ℤ (x +ℤ b) c)
    a
    ∙ ap (λ (y : ℤ). y *ℤ c +ℤ a *ℤ c) (+ℤ_idl b)
    ∙ +ℤ_comm (b *ℤ c) (a *ℤ c)

pub *-+-left : (a b c : ℤ) → a *ℤ (b +ℤ c) ≡ a *ℤ b +ℤ a *ℤ c
*-+-left a b c = cc (*ℤ_comm a (b +ℤ c), *-+-right b c a, *ℤ_comm a b, *ℤ_comm a c)

-- ---- the sign of a product

-- what adds up with b to 0 is the negative of b
pub neg_unique : (a b : ℤ) → a +ℤ b ≡ pos 0 → a ≡ neg_ℤ b
neg_unique a b e = sym (+ℤ-neg_ℤ_cancel a b) ∙ ap (λ (x : ℤ). x -ℤ b) e ∙ +ℤ_idl (neg_ℤ b)

pub neg-*-left : (a b : ℤ) → neg_ℤ a *ℤ b ≡ neg_ℤ (a *ℤ b)
neg-*-left a b = neg_unique (neg_ℤ a *ℤ b) (a *ℤ b) (sym (*-+-right (neg_ℤ a) a b) ∙ ap (λ (x : ℤ). x *ℤ b) (+ℤ_invl a) ∙ zero-*ℤ b)

pub neg-*-right : (a b : ℤ) → a *ℤ neg_ℤ b ≡ neg_ℤ (a *ℤ b)
neg-*-right a b = cc (*ℤ_comm a (neg_ℤ b), neg-*-left b a, *ℤ_comm a b)

-- ---- associativity and the unit

pub *-assoc : (a b c : ℤ) → (a *ℤ b) *ℤ c ≡ a *ℤ (b *ℤ c)
*-assoc a b c =
    linear (λ (x : ℤ). (x *ℤ b) *ℤ c) (b *ℤ c)
    (λ x. ap (λ (y : ℤ). y *ℤ c) (suc_ℤ-*ℤ x b) ∙ *-+-right (x *ℤ b) b c)
    (λ x. ap (λ (y : ℤ). y *ℤ c) (pred_ℤ-*ℤ x b) ∙ *-+-right (x *ℤ b) (neg_ℤ b) c ∙ ap (λ (y : ℤ). (x *ℤ b) *ℤ c +ℤ y) (neg-*-left b c))
    a
    ∙ ap (λ (y : ℤ). y *ℤ c +ℤ a *ℤ (b *ℤ c)) (zero-*ℤ b)
    ∙ ap (λ (y : ℤ). y +ℤ a *ℤ (b *ℤ c)) (zero-*ℤ c)
    ∙ +ℤ_idl (a *ℤ (b *ℤ c))

pub *-one : (a : ℤ) → a *ℤ pos 1 ≡ a
unfolding one
*-one a = *ℤ-one a

pub one-* : (a : ℤ) → pos 1 *ℤ a ≡ a
one-* a = *ℤ_comm (pos 1) a ∙ *-one a

-- ---- sums and products rearranged

pub +-left_comm : (a b c : ℤ) → a +ℤ (b +ℤ c) ≡ b +ℤ (a +ℤ c)
+-left_comm a b c = cc (+ℤ_assoc a b c, +ℤ_comm a b, +ℤ_assoc b a c)

pub *-left_comm : (a b c : ℤ) → a *ℤ (b *ℤ c) ≡ b *ℤ (a *ℤ c)
*-left_comm a b c = cc (*-assoc a b c, *ℤ_comm a b, *-assoc b a c)

-- (a b) (c d) = (a c) (b d)
pub *-middle : (a b c d : ℤ) → (a *ℤ b) *ℤ (c *ℤ d) ≡ (a *ℤ c) *ℤ (b *ℤ d)
*-middle a b c d = *-assoc a b (c *ℤ d) ∙ ap (λ (x : ℤ). a *ℤ x) (*-left_comm b c d) ∙ sym (*-assoc a c (b *ℤ d))

-- two integers whose difference is 0 are equal
pub difference : (a b : ℤ) → a -ℤ b ≡ pos 0 → a ≡ b
difference a b e = sym (-ℤ-+ℤ_cancel a b) ∙ ap (λ (x : ℤ). x +ℤ b) e ∙ +ℤ_idl b

-- ---- sizes

pub abs_neg : (a : ℤ) → nat_abs (neg_ℤ a) ≡ nat_abs a
abs_neg (pos zero) = refl
abs_neg (pos (suc n)) = refl
abs_neg (negsuc n) = refl

pub abs-* : (a b : ℤ) → nat_abs (a *ℤ b) ≡ nat_abs a * nat_abs b
abs-* (pos m) (pos n) = refl
abs-* (pos m) (negsuc n) = abs_neg (pos (m * suc n))
abs-* (negsuc m) (pos n) = abs_neg (pos (suc m * n))
abs-* (negsuc m) (negsuc n) = refl

abs_cond : (t : Bool) (a b : ℤ) (h : ℕ) → nat_abs a ≤ h → nat_abs b ≤ h → nat_abs (cond t a b) ≤ h
abs_cond true a b h p q = p
abs_cond false a b h p q = q

abs_sub : (m n : ℕ) → nat_abs (sub_ℕ m (suc n)) ≤ m + suc n
abs_sub m n = abs_cond (ltb m (suc n)) (negsuc (suc n - suc m)) (pos (m - suc n)) (m + suc n) (omega arith) (omega arith)

pub abs-+ : (a b : ℤ) → nat_abs (a +ℤ b) ≤ nat_abs a + nat_abs b
abs-+ (pos m) (pos n) = omega arith
abs-+ (pos m) (negsuc n) = abs_sub m n
abs-+ (negsuc m) (pos n) = omega (arith, abs_sub n m)
abs-+ (negsuc m) (negsuc n) = omega arith
