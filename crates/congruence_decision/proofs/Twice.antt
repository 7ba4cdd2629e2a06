-- The relations follow from the braid and the equations of the units: `relations`.
--
-- In order: the relation `back`; the relation `twice`, where s is a unit.
-- Assumes nothing.
use mathlib.Core.Path.{◌≡◌, sym, ◌∙◌, ap}
use mathlib.Core.List.{[], ◌∷◌}
use Prim.Native.Nat.{ℕ, suc, ◌^◌}
use lib.IntN.{ℤ, pos, negsuc, neg_ℤ, ◌+ℤ◌, ◌-ℤ◌, ◌*ℤ◌}
use Rattle.matrix.proofs.Ring.{con, var, ◌⊕◌, ◌⊙◌, ⊖◌, ring}
use Rattle.wohlfahrt.proofs.Combine.{combine}
use Rattle.congruence_decision.specs.Units.{Inverses}
use Rattle.congruence_decision.proofs.Primes.{power_inverse}
use Rattle.congruence_decision.proofs.Relations.{diagonal_by, Relations, same, forth, cancel, cancel', injective, H_one}
use Rattle.congruence_decision.proofs.Braid.{Braided, HP, WV, H_is, braid', X_H, H_Y, V_X}
use Rattle.congruence_decision.proofs.Generator.{AllUnits}

module _ {P : Type 0} {q : ℕ} {X Y : ℤ → P → P} (B : Braided q X Y) (A : AllUnits q X Y) where
  abbrev H : ℤ → ℤ → P → P
  H u v j = diagonal_by X Y u v j

  abbrev V' : P → P
  V' j = X (negsuc 0) (Y (pos 1) (X (negsuc 0) j))

  -- ---- the relation `back`

  back : (s w : ℤ) → Inverses q w (pos 2 -ℤ s) → (j : P) → X (pos 1) (Y (pos 1) (X (negsuc 0) (Y s j))) ≡ Y w
      (H w (pos 2 -ℤ s) (X (neg_ℤ w) j))
  back s w iw j =
      let d = pos 2 -ℤ s in
      let i = H w d (X (neg_ℤ w) j) in
      let r = Y (s -ℤ pos 1) j in
      let id : Inverses q d w = (combine (w ∷ s ∷ []) ((con (pos 2) ⊕ ⊖ var 1) ⊙ var 0 ⊕ con (negsuc 0))
      (con (pos 1) ⊙ (var 0 ⊙ (con (pos 2) ⊕ ⊖ var 1) ⊕ con (negsuc 0))) tt iw) in
      let undo : H d w i ≡ X (neg_ℤ w) j = A.products w d d w iw id (X (neg_ℤ w) j)
      ∙ HP B (w *ℤ d) (pos 1) (d *ℤ w) (pos 1) iw id (X (neg_ℤ w) j) ∙ H_one q X Y B.PX B.PY (X (neg_ℤ w) j) in
      let k : Y (d -ℤ pos 1) (X (pos 1) (Y (w -ℤ pos 1) i)) ≡ j = injective q X B.PX (neg_ℤ w) undo in
      let k' : X (pos 1) (Y (w -ℤ pos 1) i) ≡ r = injective q Y B.PY (d -ℤ pos 1) (k
      ∙ sym (forth q Y B.PY (s -ℤ pos 1) (d -ℤ pos 1) (ring (s ∷ [])
      ((var 0 ⊕ con (negsuc 0)) ⊕ (((con (pos 2)) ⊕ ⊖ var 0) ⊕ con (negsuc 0))) (con (pos 0)) tt) j)) in
      let m : Y (w -ℤ pos 1) i ≡ X (negsuc 0) r = sym (cancel q X B.PX (pos 1) (Y (w -ℤ pos 1) i)) ∙ ap (X (negsuc 0)) k' in
      ap (λ (z : P). X (pos 1) (Y (pos 1) (X (negsuc 0) z)))
      (same q Y B.PY (ring (s ∷ []) (var 0) ((var 0 ⊕ con (negsuc 0)) ⊕ (con (pos 1))) tt) j ∙ B.PY.sum (s -ℤ pos 1) (pos 1) j)
      ∙ ap (X (pos 1)) (braid' B r) ∙ cancel' q X B.PX (pos 1) (Y (pos 1) (X (negsuc 0) r))
      ∙ ap (Y (pos 1)) (sym m) ∙ sym (B.PY.sum (w -ℤ pos 1) (pos 1) i)
      ∙ same q Y B.PY (ring (w ∷ []) ((var 0 ⊕ con (negsuc 0)) ⊕ (con (pos 1))) (var 0) tt) i

  -- ---- the relation `twice`, where s is a unit

  twice : (s k w : ℤ) → Inverses q s k → Inverses q w (pos 1 +ℤ pos 2 *ℤ s) → (j : P)
      → X (pos 2) (Y s j) ≡ Y (s *ℤ w) (H w (pos 1 +ℤ pos 2 *ℤ s) (X (pos 2 *ℤ w) j))
  twice s k w is iw j =
      let d = pos 1 +ℤ pos 2 *ℤ s in
      let c = A.each s k is in
      let m = s *ℤ s *ℤ (k +ℤ pos 2) in
      let m' = k *ℤ w in
      let im : Inverses q m' m = (combine (s ∷ k ∷ w ∷ []) (var 1 ⊙ var 2 ⊙ (var 0 ⊙ var 0 ⊙ (var 1 ⊕ con (pos 2))) ⊕ con (negsuc 0))
      (con (pos 1) ⊙ (var 2 ⊙ (con (pos 1) ⊕ con (pos 2) ⊙ var 0) ⊕ con (negsuc 0)) ⊕ var 2
      ⊙ (con (pos 2) ⊙ var 0 ⊕ con (pos 1) ⊕ var 0 ⊙ var 1) ⊙ (var 0 ⊙ var 1 ⊕ con (negsuc 0))) tt (iw, is)) in
      let cm = A.each m' m im in
      let i = V' (X k j) in
      let start : H s k i ≡ X (neg_ℤ k) (Y s j) = H_is B s k i
      ∙ ap (λ (z : P). X (neg_ℤ k) (Y s (X (neg_ℤ k) z))) (WV B (X k j)) ∙ ap (λ (z : P). X (neg_ℤ k) (Y s z)) (cancel q X B.PX k j) in
      same q X B.PX (ring (k ∷ []) (con (pos 2)) ((⊖ var 0) ⊕ (var 0 ⊕ (con (pos 2)))) tt) (Y s j) ∙ B.PX.sum (neg_ℤ k) (k +ℤ pos 2) (Y s j)
      ∙ ap (X (k +ℤ pos 2)) (sym start)
      ∙ X_H B c (k +ℤ pos 2) i
      ∙ ap (H s k) (V_X B cm (X k j))
      ∙ H_Y B c m' (H m' m (X (neg_ℤ m') (X k j)))
      ∙ B.PY.period (s *ℤ s *ℤ m') (s *ℤ w) (combine (s ∷ k ∷ w ∷ []) (var 0 ⊙ var 0 ⊙ (var 1 ⊙ var 2) ⊕ ⊖ (var 0 ⊙ var 2))
      (var 0 ⊙ var 2 ⊙ (var 0 ⊙ var 1 ⊕ con (negsuc 0))) tt is) (H s k (H m' m (X (neg_ℤ m') (X k j))))
      ∙ ap (Y (s *ℤ w)) (A.products m' m s k im is (X (neg_ℤ m') (X k j))
      ∙ HP B (m' *ℤ s) w (m *ℤ k) d (combine (s ∷ k ∷ w ∷ []) (var 1 ⊙ var 2 ⊙ var 0 ⊕ ⊖ var 2)
      (var 2 ⊙ (var 0 ⊙ var 1 ⊕ con (negsuc 0))) tt is) (combine (s ∷ k ∷ [])
      (var 0 ⊙ var 0 ⊙ (var 1 ⊕ con (pos 2)) ⊙ var 1 ⊕ ⊖ (con (pos 1) ⊕ con (pos 2) ⊙ var 0))
      ((con (pos 2) ⊙ var 0 ⊕ con (pos 1) ⊕ var 0 ⊙ var 1) ⊙ (var 0 ⊙ var 1 ⊕ con (negsuc 0))) tt is) (X (neg_ℤ m') (X k j))
      ∙ ap (H w d) (sym (B.PX.sum k (neg_ℤ m') j) ∙ B.PX.period (k +ℤ neg_ℤ m') (pos 2 *ℤ w)
      (combine (s ∷ k ∷ w ∷ []) (var 1 ⊕ ⊖ (var 1 ⊙ var 2) ⊕ ⊖ (con (pos 2) ⊙ var 2))
      (con (pos 2) ⊙ var 2 ⊙ (var 0 ⊙ var 1 ⊕ con (negsuc 0)) ⊕ ⊖ var 1
      ⊙ (var 2 ⊙ (con (pos 1) ⊕ con (pos 2) ⊙ var 0) ⊕ con (negsuc 0))) tt (is, iw)) j))

pub relations : {P : Type 0} (p k : ℕ) {X Y : ℤ → P → P} → Braided (p ^ suc k) X Y → AllUnits (p ^ suc k) X Y → Relations p (p ^ suc k) X Y
relations p k B A = record {
  turns = λ u v i j. (A.each u v i).turn j;
  products = λ u v x y i i' j. A.products u v x y i i' j;
  twice = λ s w m i j.
      let k' = power_inverse p k s (record {
        by = negsuc 0;
        is = combine (s ∷ []) (var 0 ⊙ con (negsuc 0) ⊕ con (negsuc 0)) (con (negsuc 0) ⊙ (con (pos 1) ⊕ var 0)) tt m;
      }) in
      twice B A s k'.by w k'.is i j;
  back = λ s w m i j. back B A s w i j;
}
