-- The relations modulo a prime power q = pᵏ of two maps x = X 1 and y = Y 1, given with their powers X s and Y s for all integers s. Products are read from
-- left to right: X s and then H u v.
--
--   Inverses q u v     u v is 1 modulo q
--   Powers q X         X 0 moves nothing, X (a + b) is X a and then X b, X depends on its argument modulo q only
--   diagonal_by X Y u v   H u v = Y (v - 1) X 1 Y (u - 1) X (-v): the diagonal matrix (u 0; 0 v), where u v is 1
--   weyl_by X Y        W = X 1 Y -1 X 1: the matrix (0 1; -1 0)
--   Relations p q X Y  in parts:
--     turns            H u v X 1 = X (u u) H u v                                       for each unit u
--     products         H u v H u' v' = H (u u') (v v')                                  for units u, u'
--     twice            Y g X 2 = X (2 w) H w (1 + 2 g) Y (g w)                           for each g with p | 1 + g; w is the inverse of 1 + 2 g
--     back             Y g X (-1) Y 1 X 1 = X (-w) H w (2 - g) Y w                       for each g with p | 1 - g; w is the inverse of 2 - g
--
-- In order: the definitions; H depends on its arguments modulo q, H 1 1 moves nothing; maps that pass powers (`passes`).
-- Assumes nothing.
use mathlib.Core.Path.{◌≡◌, sym, ◌∙◌, ap}
use mathlib.Core.List.{[], ◌∷◌}
use Prim.Native.Nat.{ℕ, zero, suc, ◌+◌, ◌<◌}
use native.Mathlib.Omega.{arith}
use lib.IntN.{ℤ, pos, negsuc, neg_ℤ, ◌+ℤ◌, ◌-ℤ◌, ◌*ℤ◌}
use Rattle.matrix.proofs.Ring.{con, var, ◌⊕◌, ◌⊙◌, ⊖◌, ring}
use Rattle.congruence.specs.Congruence.{Multiple}
use Rattle.congruence.proofs.Multiple.{residue}
use Rattle.wohlfahrt.proofs.Combine.{combine}
use Rattle.congruence_decision.specs.Units.{Inverses}

pub record Powers {P : Type 0} (q : ℕ) (X : ℤ → P → P) : Type 0 where
  pub none : (j : P) → X (pos 0) j ≡ j
  pub sum : (a b : ℤ) (j : P) → X (a +ℤ b) j ≡ X b (X a j)
  pub period : (a b : ℤ) → Multiple q (a -ℤ b) → (j : P) → X a j ≡ X b j

abbrev pub diagonal_by : {P : Type 0} (X Y : ℤ → P → P) → (u v : ℤ) → P → P
diagonal_by X Y u v j = X (neg_ℤ v) (Y (u -ℤ pos 1) (X (pos 1) (Y (v -ℤ pos 1) j)))

abbrev pub weyl_by : {P : Type 0} (X Y : ℤ → P → P) → P → P
weyl_by X Y j = X (pos 1) (Y (negsuc 0) (X (pos 1) j))

pub record Relations {P : Type 0} (p q : ℕ) (X Y : ℤ → P → P) : Type 0 where
  pub turns : (u v : ℤ) → Inverses q u v → (j : P) → X (pos 1) (diagonal_by X Y u v j) ≡ diagonal_by X Y u v (X (u *ℤ u) j)
  pub products : (u v u' v' : ℤ) → Inverses q u v → Inverses q u' v' → (j : P)
      → diagonal_by X Y u' v' (diagonal_by X Y u v j) ≡ diagonal_by X Y (u *ℤ u') (v *ℤ v') j
  pub twice : (g w : ℤ) → Multiple p (pos 1 +ℤ g) → Inverses q w (pos 1 +ℤ pos 2 *ℤ g) → (j : P)
      → X (pos 2) (Y g j) ≡ Y (g *ℤ w) (diagonal_by X Y w (pos 1 +ℤ pos 2 *ℤ g) (X (pos 2 *ℤ w) j))
  pub back : (g w : ℤ) → Multiple p (pos 1 -ℤ g) → Inverses q w (pos 2 -ℤ g) → (j : P)
      → X (pos 1) (Y (pos 1) (X (negsuc 0) (Y g j))) ≡ Y w (diagonal_by X Y w (pos 2 -ℤ g) (X (neg_ℤ w) j))

-- ---- units

pub inverses_flip : {q : ℕ} (u v : ℤ) → Inverses q u v → Inverses q v u
inverses_flip u v h = combine (u ∷ v ∷ []) (var 1 ⊙ var 0 ⊕ con (negsuc 0)) (con (pos 1) ⊙ (var 0 ⊙ var 1 ⊕ con (negsuc 0))) tt h

pub inverses_times : {q : ℕ} (u v a b : ℤ) → Inverses q u v → Inverses q a b → Inverses q (u *ℤ a) (v *ℤ b)
inverses_times u v a b h k = combine (u ∷ v ∷ a ∷ b ∷ []) (var 0 ⊙ var 2 ⊙ (var 1 ⊙ var 3) ⊕ con (negsuc 0))
    (var 2 ⊙ var 3 ⊙ (var 0 ⊙ var 1 ⊕ con (negsuc 0)) ⊕ con (pos 1) ⊙ (var 2 ⊙ var 3 ⊕ con (negsuc 0))) tt (h, k)

-- ---- one map's powers

module _ {P : Type 0} (q : ℕ) (X : ℤ → P → P) (PX : Powers q X) where
  pub same : {a b : ℤ} → a ≡ b → (j : P) → X a j ≡ X b j
  same e j = ap (λ (z : ℤ). X z j) e

  pub forth : (a b : ℤ) → a +ℤ b ≡ pos 0 → (j : P) → X b (X a j) ≡ j
  forth a b e j = sym (PX.sum a b j) ∙ same e j ∙ PX.none j

  pub cancel : (a : ℤ) (j : P) → X (neg_ℤ a) (X a j) ≡ j
  cancel a j = forth a (neg_ℤ a) (ring (a ∷ []) (var 0 ⊕ ⊖ var 0) (con (pos 0)) tt) j

  pub cancel' : (a : ℤ) (j : P) → X a (X (neg_ℤ a) j) ≡ j
  cancel' a j = forth (neg_ℤ a) a (ring (a ∷ []) (⊖ var 0 ⊕ var 0) (con (pos 0)) tt) j

  pub injective : (a : ℤ) {i j : P} → X a i ≡ X a j → i ≡ j
  injective a {i} {j} e = sym (cancel a i) ∙ ap (X (neg_ℤ a)) e ∙ cancel a j

-- maps that pass powers: what is so of X 1 is so of X a
module _ {P : Type 0} (q : ℕ) (some : 0 < q) (X Z : ℤ → P → P) (PX : Powers q X) (PZ : Powers q Z) (f : P → P) (c : ℤ)
    (e : (j : P) → X (pos 1) (f j) ≡ f (Z c j)) where
  passes_up : (n : ℕ) (j : P) → X (pos n) (f j) ≡ f (Z (c *ℤ pos n) j)
  passes_up zero j = PX.none (f j) ∙ ap f (sym (ap (λ (z : ℤ). Z z j) (ring (c ∷ []) (var 0 ⊙ con (pos 0)) (con (pos 0)) tt) ∙ PZ.none j))
  passes_up (suc n) j =
      let k : suc n ≡ n + 1 = omega arith in
      ap (λ (z : ℕ). X (pos z) (f j)) k ∙ PX.sum (pos n) (pos 1) (f j) ∙ ap (X (pos 1)) (passes_up n j) ∙ e (Z (c *ℤ pos n) j)
      ∙ ap f (sym (PZ.sum (c *ℤ pos n) c j)
      ∙ ap (λ (z : ℤ). Z z j) (ring (c ∷ pos n ∷ []) (var 0 ⊙ var 1 ⊕ var 0) (var 0 ⊙ (var 1 ⊕ con (pos 1))) tt)
      ∙ ap (λ (z : ℕ). Z (c *ℤ pos z) j) (sym k))

  pub passes : (a : ℤ) (j : P) → X a (f j) ≡ f (Z (c *ℤ a) j)
  passes a j =
      let r = residue q some a in
      let n = r.is in
      PX.period a (pos n) r.differs (f j) ∙ passes_up n j
      ∙ ap f (PZ.period (c *ℤ pos n) (c *ℤ a)
      (combine (c ∷ pos n ∷ a ∷ []) (var 0 ⊙ var 1 ⊕ ⊖ (var 0 ⊙ var 2)) (⊖ var 0 ⊙ (var 2 ⊕ ⊖ var 1)) tt r.differs) j)

-- ---- the diagonal maps

module _ {P : Type 0} (q : ℕ) (X Y : ℤ → P → P) (PX : Powers q X) (PY : Powers q Y) where
  pub H_period : (u u' v v' : ℤ) → Multiple q (u -ℤ u') → Multiple q (v -ℤ v') → (j : P) → diagonal_by X Y u v j ≡ diagonal_by X Y u' v' j
  H_period u u' v v' h k j =
      ap (λ (i : P). X (neg_ℤ v) (Y (u -ℤ pos 1) (X (pos 1) i))) (PY.period (v -ℤ pos 1) (v' -ℤ pos 1) (one_less v v' k) j)
      ∙ ap (X (neg_ℤ v)) (PY.period (u -ℤ pos 1) (u' -ℤ pos 1) (one_less u u' h) (X (pos 1) (Y (v' -ℤ pos 1) j)))
      ∙ PX.period (neg_ℤ v) (neg_ℤ v') (combine (v ∷ v' ∷ []) (⊖ var 0 ⊕ ⊖ ⊖ var 1) (con (negsuc 0) ⊙ (var 0 ⊕ ⊖ var 1)) tt k)
      (Y (u' -ℤ pos 1) (X (pos 1) (Y (v' -ℤ pos 1) j)))
    where
      one_less : (x y : ℤ) → Multiple q (x -ℤ y) → Multiple q (x -ℤ pos 1 -ℤ (y -ℤ pos 1))
      one_less x y h = combine (x ∷ y ∷ []) (var 0 ⊕ con (negsuc 0) ⊕ ⊖ (var 1 ⊕ con (negsuc 0))) (con (pos 1) ⊙ (var 0 ⊕ ⊖ var 1)) tt h

  pub H_one : (j : P) → diagonal_by X Y (pos 1) (pos 1) j ≡ j
  H_one j =
      ap (λ (i : P). X (negsuc 0) (Y (pos 0) (X (pos 1) i))) (PY.none j) ∙ ap (X (negsuc 0)) (PY.none (X (pos 1) j))
      ∙ sym (PX.sum (pos 1) (negsuc 0) j) ∙ PX.none j
