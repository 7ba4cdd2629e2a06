-- ONE UNIT IS ENOUGH: where g and -1 generate the units modulo q, and the braid, W W W W = 1 and the two equations of g hold, the two equations hold for each
-- unit, and H u H u' = H (u u'): `all_units`.
--
--   AllUnits q X Y     the equations of each unit, and the products of any two
--
-- Why: D (H u) D = H (u g g), D being H g; so if D H u = H (u g) and D commutes with H u, the same is so of u g, and by W W of -u (`Chain`).
-- Assumes nothing.
use mathlib.Core.Path.{◌≡◌, sym, ◌∙◌, ap}
use mathlib.Core.List.{[], ◌∷◌}
use Prim.Native.Nat.{ℕ}
use lib.IntN.{ℤ, pos, negsuc, neg_ℤ, ◌-ℤ◌, ◌*ℤ◌}
use Rattle.matrix.proofs.Ring.{con, var, ◌⊕◌, ◌⊙◌, ⊖◌, ring}
use Rattle.congruence.specs.Congruence.{Multiple}
use Rattle.congruence.proofs.Multiple.{mult_zero}
use Rattle.wohlfahrt.proofs.Combine.{combine}
use Rattle.congruence_decision.specs.Units.{Inverses, SignedPower, one, more, minus}
use Rattle.congruence_decision.proofs.Relations.{diagonal_by, weyl_by, inverses_times, same, H_one}
use Rattle.congruence_decision.proofs.Braid.{Braided, UnitHolds, HP, holds_as, H_is, X_W, Y_W, X_H, H_X, H_Y, H_WW, minus_is}

pub record AllUnits {P : Type 0} (q : ℕ) (X Y : ℤ → P → P) : Type 0 where
  pub each : (u v : ℤ) → Inverses q u v → UnitHolds q X Y u v
  pub products : (u v a b : ℤ) → Inverses q u v → Inverses q a b → (j : P)
      → diagonal_by X Y a b (diagonal_by X Y u v j) ≡ diagonal_by X Y (u *ℤ a) (v *ℤ b) j

module _ {P : Type 0} {q : ℕ} {X Y : ℤ → P → P} (B : Braided q X Y) where
  abbrev H : ℤ → ℤ → P → P
  H u v j = diagonal_by X Y u v j

  abbrev W : P → P
  W j = weyl_by X Y j

  H1 : (j : P) → H (pos 1) (pos 1) j ≡ j
  H1 j = H_one q X Y B.PX B.PY j

  module _ {g h : ℤ} (G : UnitHolds q X Y g h) (fourth : (j : P) → W (W (W (W j))) ≡ j) where
    abbrev D : P → P
    D j = H g h j

    two_more : (u v : ℤ) (j : P) → D (H u v (D j)) ≡ H (u *ℤ g *ℤ g) (v *ℤ h *ℤ h) j
    two_more u v j =
        let x = neg_ℤ (v *ℤ h *ℤ h) in
        let e = ring (v ∷ h ∷ []) (var 1 ⊙ var 1 ⊙ ⊖ var 0) (⊖ (var 0 ⊙ var 1 ⊙ var 1)) tt in
        ap D (H_is B u v (D j))
        ∙ H_X B G (neg_ℤ v) (Y u (X (neg_ℤ v) (W (D j)))) ∙ same q X B.PX e (D (Y u (X (neg_ℤ v) (W (D j)))))
        ∙ ap (X x) (H_Y B G u (X (neg_ℤ v) (W (D j))) ∙ same q Y B.PY (ring (u ∷ g ∷ []) (var 1 ⊙ var 1 ⊙ var 0) (var 0 ⊙ var 1 ⊙ var 1) tt)
        (D (X (neg_ℤ v) (W (D j)))))
        ∙ ap (λ (i : P). X x (Y (u *ℤ g *ℤ g) i)) (H_X B G (neg_ℤ v) (W (D j)) ∙ same q X B.PX e (D (W (D j))) ∙ ap (X x) (G.flip j))
        ∙ sym (H_is B (u *ℤ g *ℤ g) (v *ℤ h *ℤ h) j)

    record Chain (u v : ℤ) : Type 0 where
      holds : UnitHolds q X Y u v
      comm : (j : P) → D (H u v j) ≡ H u v (D j)
      next : (j : P) → D (H u v j) ≡ H (u *ℤ g) (v *ℤ h) j

    chain_one : Chain (pos 1) (pos 1)
    chain_one = record {
      holds = record {
        unit = mult_zero;
        turn = λ j. ap (X (pos 1)) (H1 j) ∙ sym (H1 (X (pos 1) j));
        flip = λ j. H1 (W (H (pos 1) (pos 1) j)) ∙ ap W (H1 j);
      };
      comm = λ j. ap D (H1 j) ∙ sym (H1 (D j));
      next = λ j. ap D (H1 j)
          ∙ ap (λ (z : ℤ). H z h j) (ring (g ∷ []) (var 0) (con (pos 1) ⊙ var 0) tt)
          ∙ ap (λ (z : ℤ). H (pos 1 *ℤ g) z j) (ring (h ∷ []) (var 0) (con (pos 1) ⊙ var 0) tt);
    }

    chain_as : (u v x y : ℤ) → Multiple q (x -ℤ u) → Multiple q (y -ℤ v) → Chain u v → Chain x y
    chain_as u v x y hx hy c =
        let e = HP B x u y v hx hy in
        record {
          holds = holds_as B u v x y hx hy c.holds;
          comm = λ j. ap D (e j) ∙ c.comm j ∙ sym (e (D j));
          next = λ j. ap D (e j) ∙ c.next j ∙ HP B (u *ℤ g) (x *ℤ g) (v *ℤ h) (y *ℤ h)
              (combine (u ∷ x ∷ g ∷ []) (var 0 ⊙ var 2 ⊕ ⊖ (var 1 ⊙ var 2)) (⊖ var 2 ⊙ (var 1 ⊕ ⊖ var 0)) tt hx)
              (combine (v ∷ y ∷ h ∷ []) (var 0 ⊙ var 2 ⊕ ⊖ (var 1 ⊙ var 2)) (⊖ var 2 ⊙ (var 1 ⊕ ⊖ var 0)) tt hy) j;
        }

    chain_more : (u v : ℤ) → Chain u v → Chain (u *ℤ g) (v *ℤ h)
    chain_more u v c =
        let n = c.next in
        -- first D and then H
        let n' : (j : P) → H (u *ℤ g) (v *ℤ h) j ≡ H u v (D j) = λ j. sym (c.next j) ∙ c.comm j in
        record {
          holds = record {
            unit = inverses_times u v g h c.holds.unit G.unit;
            turn = λ j. ap (X (pos 1)) (sym (n j)) ∙ G.turn (H u v j) ∙ ap D (X_H B c.holds (g *ℤ g) j)
                ∙ n (X (u *ℤ u *ℤ (g *ℤ g)) j)
                ∙ ap (H (u *ℤ g) (v *ℤ h)) (same q X B.PX (ring (u ∷ g ∷ []) (var 0 ⊙ var 0 ⊙ (var 1 ⊙ var 1))
                (var 0 ⊙ var 1 ⊙ (var 0 ⊙ var 1)) tt) j);
            flip = λ j. sym (n (W (H (u *ℤ g) (v *ℤ h) j))) ∙ ap (λ (i : P). D (H u v (W i))) (n' j) ∙ ap D (c.holds.flip (D j)) ∙ G.flip j;
          };
          comm = λ j. ap D (n' j) ∙ n (D j);
          next = λ j. ap D (n' j) ∙ two_more u v j;
        }

    chain_minus : (u v : ℤ) → Chain u v → Chain (neg_ℤ u) (neg_ℤ v)
    chain_minus u v c =
        let m = minus_is B c.holds in
        let d = chain_more u v c in
        let m' = minus_is B d.holds in
        record {
          holds = record {
            unit = (combine (u ∷ v ∷ []) (⊖ var 0 ⊙ ⊖ var 1 ⊕ con (negsuc 0)) (con (pos 1) ⊙ (var 0 ⊙ var 1 ⊕ con (negsuc 0))) tt c.holds.unit);
            turn = λ j. ap (X (pos 1)) (m j) ∙ X_W B (pos 1) (W (H u v j)) ∙ ap W (Y_W B (negsuc 0) (H u v j))
                ∙ ap (λ (i : P). W (W i)) (c.holds.turn j) ∙ sym (m (X (u *ℤ u) j))
                ∙ ap (H (neg_ℤ u) (neg_ℤ v)) (same q X B.PX (ring (u ∷ []) (var 0 ⊙ var 0) (⊖ var 0 ⊙ ⊖ var 0) tt) j);
            flip = λ j. m (W (H (neg_ℤ u) (neg_ℤ v) j)) ∙ ap (λ (i : P). W (W (H u v (W i)))) (m j)
                ∙ ap (λ (i : P). W (W i)) (H_WW B c.holds (W (H u v j)) ∙ ap (λ (i : P). W (W i)) (c.holds.flip j))
                ∙ fourth (W j);
          };
          comm = λ j. ap D (m j) ∙ H_WW B G (H u v j) ∙ ap (λ (i : P). W (W i)) (c.comm j) ∙ sym (m (D j));
          next = λ j. ap D (m j) ∙ H_WW B G (H u v j) ∙ ap (λ (i : P). W (W i)) (c.next j) ∙ sym (m' j)
              ∙ ap (λ (z : ℤ). H z (neg_ℤ (v *ℤ h)) j) (ring (u ∷ g ∷ []) (⊖ (var 0 ⊙ var 1)) (⊖ var 0 ⊙ var 1) tt)
              ∙ ap (λ (z : ℤ). H (neg_ℤ u *ℤ g) z j) (ring (v ∷ h ∷ []) (⊖ (var 0 ⊙ var 1)) (⊖ var 0 ⊙ var 1) tt);
        }

    chains : {x y : ℤ} → SignedPower q g h x y → Chain x y
    chains (one x y hx hy) = chain_as (pos 1) (pos 1) x y hx hy chain_one
    chains (more u v x y t hx hy) = chain_as (u *ℤ g) (v *ℤ h) x y hx hy (chain_more u v (chains t))
    chains (minus u v x y t hx hy) = chain_as (neg_ℤ u) (neg_ℤ v) x y
        (combine (x ∷ u ∷ []) (var 0 ⊕ ⊖ ⊖ var 1) (con (pos 1) ⊙ (var 0 ⊕ var 1)) tt hx)
        (combine (y ∷ v ∷ []) (var 0 ⊕ ⊖ ⊖ var 1) (con (pos 1) ⊙ (var 0 ⊕ var 1)) tt hy) (chain_minus u v (chains t))

    -- ---- products

    module _ (spans : (u v : ℤ) → Inverses q u v → SignedPower q g h u v) where
      products : {x y : ℤ} → SignedPower q g h x y → (u v : ℤ) → Inverses q u v → (j : P) → H x y (H u v j) ≡ H (u *ℤ x) (v *ℤ y) j
      products (one x y hx hy) u v iu j =
          HP B x (pos 1) y (pos 1) hx hy (H u v j) ∙ H1 (H u v j)
          ∙ HP B u (u *ℤ x) v (v *ℤ y) (combine (u ∷ x ∷ []) (var 0 ⊕ ⊖ (var 0 ⊙ var 1)) (⊖ var 0 ⊙ (var 1 ⊕ con (negsuc 0))) tt hx)
          (combine (v ∷ y ∷ []) (var 0 ⊕ ⊖ (var 0 ⊙ var 1)) (⊖ var 0 ⊙ (var 1 ⊕ con (negsuc 0))) tt hy) j
      products (more a b x y t hx hy) u v iu j =
          let c = chains t in
          HP B x (a *ℤ g) y (b *ℤ h) hx hy (H u v j) ∙ sym (c.next (H u v j)) ∙ ap D (products t u v iu j)
          ∙ (chains (spans (u *ℤ a) (v *ℤ b) (inverses_times u v a b iu c.holds.unit))).next j
          ∙ HP B (u *ℤ a *ℤ g) (u *ℤ x) (v *ℤ b *ℤ h) (v *ℤ y)
          (combine (u ∷ a ∷ x ∷ g ∷ []) (var 0 ⊙ var 1 ⊙ var 3 ⊕ ⊖ (var 0 ⊙ var 2)) (⊖ var 0 ⊙ (var 2 ⊕ ⊖ (var 1 ⊙ var 3))) tt hx)
          (combine (v ∷ b ∷ y ∷ h ∷ []) (var 0 ⊙ var 1 ⊙ var 3 ⊕ ⊖ (var 0 ⊙ var 2)) (⊖ var 0 ⊙ (var 2 ⊕ ⊖ (var 1 ⊙ var 3))) tt hy) j
      products (minus a b x y t hx hy) u v iu j =
          let c = chains t in
          let d = chains (spans (u *ℤ a) (v *ℤ b) (inverses_times u v a b iu c.holds.unit)) in
          HP B x (neg_ℤ a) y (neg_ℤ b) (combine (x ∷ a ∷ []) (var 0 ⊕ ⊖ ⊖ var 1) (con (pos 1) ⊙ (var 0 ⊕ var 1)) tt hx)
          (combine (y ∷ b ∷ []) (var 0 ⊕ ⊖ ⊖ var 1) (con (pos 1) ⊙ (var 0 ⊕ var 1)) tt hy) (H u v j)
          ∙ minus_is B c.holds (H u v j) ∙ ap (λ (i : P). W (W i)) (products t u v iu j)
          ∙ sym (minus_is B d.holds j)
          ∙ HP B (neg_ℤ (u *ℤ a)) (u *ℤ x) (neg_ℤ (v *ℤ b)) (v *ℤ y)
          (combine (u ∷ a ∷ x ∷ []) (⊖ (var 0 ⊙ var 1) ⊕ ⊖ (var 0 ⊙ var 2)) (⊖ var 0 ⊙ (var 2 ⊕ var 1)) tt hx)
          (combine (v ∷ b ∷ y ∷ []) (⊖ (var 0 ⊙ var 1) ⊕ ⊖ (var 0 ⊙ var 2)) (⊖ var 0 ⊙ (var 2 ⊕ var 1)) tt hy) j

      pub all_units : AllUnits q X Y
      all_units = record {
        each = λ u v i. (chains (spans u v i)).holds;
        products = λ u v a b i k j. products (spans a b k) u v i j;
      }
