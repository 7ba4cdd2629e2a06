-- What follows from the braid relation: W passes powers, and H u v is W X -v Y u X -v; and of a unit u whose H turns X and flips W: how powers of X and Y pass
-- it, that H (-u) is H u W W, and what V X v is, V being the inverse of W.
--
--   Braided q X Y           X and Y have powers modulo q, and X 1 Y -1 X 1 = Y -1 X 1 Y -1
--   UnitHolds q X Y u v     u is a unit with the inverse v; H u v X 1 = X (u u) H u v; H u v W H u v = W
--
-- Assumes nothing.
use mathlib.Core.Path.{◌≡◌, sym, ◌∙◌, ap}
use mathlib.Core.List.{[], ◌∷◌}
use Prim.Native.Nat.{ℕ, ◌<◌}
use lib.IntN.{ℤ, pos, negsuc, neg_ℤ, ◌-ℤ◌, ◌*ℤ◌}
use Rattle.matrix.proofs.Ring.{con, var, ◌⊕◌, ◌⊙◌, ⊖◌, ring}
use Rattle.congruence.specs.Congruence.{Multiple}
use Rattle.wohlfahrt.proofs.Combine.{combine}
use Rattle.congruence_decision.specs.Units.{Inverses}
use Rattle.congruence_decision.proofs.Relations.{Powers, diagonal_by, weyl_by, same, cancel, cancel', injective, passes, H_period}

pub record Braided {P : Type 0} (q : ℕ) (X Y : ℤ → P → P) : Type 0 where
  pub some : 0 < q
  pub PX : Powers q X
  pub PY : Powers q Y
  pub braid : (j : P) → weyl_by X Y j ≡ Y (negsuc 0) (X (pos 1) (Y (negsuc 0) j))

pub record UnitHolds {P : Type 0} (q : ℕ) (X Y : ℤ → P → P) (u v : ℤ) : Type 0 where
  pub unit : Inverses q u v
  pub turn : (j : P) → X (pos 1) (diagonal_by X Y u v j) ≡ diagonal_by X Y u v (X (u *ℤ u) j)
  pub flip : (j : P) → diagonal_by X Y u v (weyl_by X Y (diagonal_by X Y u v j)) ≡ weyl_by X Y j

module _ {P : Type 0} {q : ℕ} {X Y : ℤ → P → P} (B : Braided q X Y) where
  abbrev H : ℤ → ℤ → P → P
  H u v j = diagonal_by X Y u v j

  abbrev W : P → P
  W j = weyl_by X Y j

  abbrev V' : P → P
  V' j = X (negsuc 0) (Y (pos 1) (X (negsuc 0) j))

  pub HP : (u u' v v' : ℤ) → Multiple q (u -ℤ u') → Multiple q (v -ℤ v') → (j : P) → H u v j ≡ H u' v' j
  HP u u' v v' h k j = H_period q X Y B.PX B.PY u u' v v' h k j

  W_inj : {i j : P} → W i ≡ W j → i ≡ j
  W_inj e = injective q X B.PX (pos 1) (injective q Y B.PY (negsuc 0) (injective q X B.PX (pos 1) e))

  H_inj : (u v : ℤ) {i j : P} → H u v i ≡ H u v j → i ≡ j
  H_inj u v e = injective q Y B.PY (v -ℤ pos 1) (injective q X B.PX (pos 1) (injective q Y B.PY (u -ℤ pos 1) (injective q X B.PX (neg_ℤ v) e)))

  pub WV : (j : P) → W (V' j) ≡ j
  WV j = ap (λ (i : P). X (pos 1) (Y (negsuc 0) i)) (cancel' q X B.PX (pos 1) (Y (pos 1) (X (negsuc 0) j)))
      ∙ ap (X (pos 1)) (cancel q Y B.PY (pos 1) (X (negsuc 0) j)) ∙ cancel' q X B.PX (pos 1) j

  VW : (j : P) → V' (W j) ≡ j
  VW j = W_inj (WV (W j))

  -- the inverse of the braid
  pub braid' : (j : P) → Y (pos 1) (X (negsuc 0) (Y (pos 1) j)) ≡ V' j
  braid' j = W_inj (
      B.braid (Y (pos 1) (X (negsuc 0) (Y (pos 1) j)))
      ∙ ap (λ (i : P). Y (negsuc 0) (X (pos 1) i)) (cancel q Y B.PY (pos 1) (X (negsuc 0) (Y (pos 1) j)))
      ∙ ap (Y (negsuc 0)) (cancel' q X B.PX (pos 1) (Y (pos 1) j)) ∙ cancel q Y B.PY (pos 1) j
      ∙ sym (WV j))

  -- ---- W passes powers

  pub X_W : (a : ℤ) (j : P) → X a (W j) ≡ W (Y (negsuc 0 *ℤ a) j)
  X_W a j = passes q B.some X Y B.PX B.PY W (negsuc 0) (λ i. ap (X (pos 1)) (B.braid i)) a j

  pub Y_W : (a : ℤ) (j : P) → Y a (W j) ≡ W (X (negsuc 0 *ℤ a) j)
  Y_W a j = passes q B.some Y X B.PY B.PX W (negsuc 0)
      (λ i. sym (injective q Y B.PY (negsuc 0) (sym (B.braid (X (pos 1) (X (negsuc 0) i))) ∙ ap W (cancel' q X B.PX (pos 1) i)
      ∙ sym (cancel q Y B.PY (pos 1) (W i))))) a j

  -- H u v is W X -v Y u X -v
  pub H_is : (u v : ℤ) (j : P) → H u v j ≡ X (neg_ℤ v) (Y u (X (neg_ℤ v) (W j)))
  H_is u v j =
      ap (λ (i : P). X (neg_ℤ v) (Y (u -ℤ pos 1) (X (pos 1) i))) (B.PY.sum v (negsuc 0) j)
      ∙ ap (X (neg_ℤ v)) (same q Y B.PY (ring (u ∷ []) (var 0 ⊕ con (negsuc 0)) (con (negsuc 0) ⊕ var 0) tt) (X (pos 1) (Y (negsuc 0) (Y v j)))
      ∙ B.PY.sum (negsuc 0) u (X (pos 1) (Y (negsuc 0) (Y v j))))
      ∙ ap (λ (i : P). X (neg_ℤ v) (Y u i)) (sym (B.braid (Y v j))
      ∙ ap W (same q Y B.PY (ring (v ∷ []) (var 0) (con (negsuc 0) ⊙ ⊖ var 0) tt) j) ∙ sym (X_W (neg_ℤ v) j))

  -- ---- a unit whose H turns X and flips W

  module _ {u v : ℤ} (c : UnitHolds q X Y u v) where
    pub X_H : (a : ℤ) (j : P) → X a (H u v j) ≡ H u v (X (u *ℤ u *ℤ a) j)
    X_H a j = passes q B.some X X B.PX B.PX (H u v) (u *ℤ u) c.turn a j

    pub H_X : (a : ℤ) (j : P) → H u v (X a j) ≡ X (v *ℤ v *ℤ a) (H u v j)
    H_X a j = sym (X_H (v *ℤ v *ℤ a) j
        ∙ ap (H u v) (B.PX.period (u *ℤ u *ℤ (v *ℤ v *ℤ a)) a (combine (u ∷ v ∷ a ∷ []) (var 0 ⊙ var 0 ⊙ (var 1 ⊙ var 1 ⊙ var 2) ⊕ ⊖ var 2)
        (var 2 ⊙ (var 0 ⊙ var 1 ⊕ con (pos 1)) ⊙ (var 0 ⊙ var 1 ⊕ con (negsuc 0))) tt c.unit) j))

    Y_H : (b : ℤ) (j : P) → Y b (H u v j) ≡ H u v (Y (v *ℤ v *ℤ b) j)
    Y_H b j =
        let d = v *ℤ v *ℤ b in
        W_inj (H_inj u v (
        ap (H u v) (ap W (same q Y B.PY (ring (b ∷ []) (var 0) (con (negsuc 0) ⊙ ⊖ var 0) tt) (H u v j)) ∙ sym (X_W (neg_ℤ b) (H u v j)))
        ∙ H_X (neg_ℤ b) (W (H u v j)) ∙ ap (X (v *ℤ v *ℤ neg_ℤ b)) (c.flip j) ∙ X_W (v *ℤ v *ℤ neg_ℤ b) j
        ∙ ap W (same q Y B.PY (ring (v ∷ b ∷ []) (con (negsuc 0) ⊙ (var 0 ⊙ var 0 ⊙ ⊖ var 1)) (var 0 ⊙ var 0 ⊙ var 1) tt) j)
        ∙ sym (c.flip (Y d j))))

    pub H_Y : (b : ℤ) (j : P) → H u v (Y b j) ≡ Y (u *ℤ u *ℤ b) (H u v j)
    H_Y b j = sym (Y_H (u *ℤ u *ℤ b) j
        ∙ ap (H u v) (B.PY.period (v *ℤ v *ℤ (u *ℤ u *ℤ b)) b (combine (u ∷ v ∷ b ∷ []) (var 1 ⊙ var 1 ⊙ (var 0 ⊙ var 0 ⊙ var 2) ⊕ ⊖ var 2)
        (var 2 ⊙ (var 0 ⊙ var 1 ⊕ con (pos 1)) ⊙ (var 0 ⊙ var 1 ⊕ con (negsuc 0))) tt c.unit) j))

    pub H_WW : (j : P) → H u v (W (W j)) ≡ W (W (H u v j))
    H_WW j = sym (sym (c.flip (W (H u v j))) ∙ ap (λ (i : P). H u v (W i)) (c.flip j))

    flip' : (j : P) → H u v (V' (H u v j)) ≡ V' j
    flip' j = sym (VW (H u v (V' (H u v j)))) ∙ ap V' (H_inj u v (c.flip (V' (H u v j)) ∙ WV (H u v j)))

    -- -u
    pub minus_is : (j : P) → H (neg_ℤ u) (neg_ℤ v) j ≡ W (W (H u v j))
    minus_is j =
        let i = W (H u v j) in
        H_is (neg_ℤ u) (neg_ℤ v) j
        ∙ ap (λ (z : ℤ). X z (Y (neg_ℤ u) (X z (W j)))) (ring (v ∷ []) (⊖ ⊖ var 0) (var 0) tt)
        ∙ ap (λ (z : P). X v (Y (neg_ℤ u) (X v z))) (sym (c.flip j) ∙ H_is u v i)
        ∙ ap (λ (z : P). X v (Y (neg_ℤ u) z)) (cancel' q X B.PX v (Y u (X (neg_ℤ v) (W i))))
        ∙ ap (X v) (cancel q Y B.PY u (X (neg_ℤ v) (W i))) ∙ cancel' q X B.PX v (W i)

    -- V X v, where V is the inverse of W
    pub V_X : (j : P) → X v (V' j) ≡ Y u (H u v (X (neg_ℤ u) j))
    V_X j =
        let i = H u v j in
        ap (X v) (sym (flip' j) ∙ H_is u v (V' i)) ∙ cancel' q X B.PX v (Y u (X (neg_ℤ v) (W (V' i))))
        ∙ ap (λ (z : P). Y u (X (neg_ℤ v) z)) (WV i)
        ∙ ap (Y u) (X_H (neg_ℤ v) j ∙ ap (H u v) (B.PX.period (u *ℤ u *ℤ neg_ℤ v) (neg_ℤ u)
        (combine (u ∷ v ∷ []) (var 0 ⊙ var 0 ⊙ ⊖ var 1 ⊕ ⊖ ⊖ var 0) (⊖ var 0 ⊙ (var 0 ⊙ var 1 ⊕ con (negsuc 0))) tt c.unit) j))

  -- the same of what is equal modulo q
  pub holds_as : (u v x y : ℤ) → Multiple q (x -ℤ u) → Multiple q (y -ℤ v) → UnitHolds q X Y u v → UnitHolds q X Y x y
  holds_as u v x y hx hy c =
      let e = HP x u y v hx hy in
      record {
        unit = combine (u ∷ v ∷ x ∷ y ∷ []) (var 2 ⊙ var 3 ⊕ con (negsuc 0))
            (var 3 ⊙ (var 2 ⊕ ⊖ var 0) ⊕ (var 0 ⊙ (var 3 ⊕ ⊖ var 1) ⊕ con (pos 1) ⊙ (var 0 ⊙ var 1 ⊕ con (negsuc 0)))) tt (hx, (hy, c.unit));
        turn = λ j. ap (X (pos 1)) (e j) ∙ c.turn j ∙ sym (e (X (u *ℤ u) j))
            ∙ ap (H x y) (B.PX.period (u *ℤ u) (x *ℤ x)
            (combine (u ∷ x ∷ []) (var 0 ⊙ var 0 ⊕ ⊖ (var 1 ⊙ var 1)) ((⊖ var 0 ⊕ ⊖ var 1) ⊙ (var 1 ⊕ ⊖ var 0)) tt hx) j);
        flip = λ j. e (W (H x y j)) ∙ ap (λ (i : P). H u v (W i)) (e j) ∙ c.flip j;
      }
