-- Where Γ(q r) acts trivially, the powers T^e and L^e, e being 1 modulo q and 0 modulo r, meet the equations modulo q: `braid_of`, `fourth_of`, `unit_of`,
-- `product_of`; and T^e commutes with L^f where e f is 0: `cross_of`.
--
-- In order: words of powers; modulo r they are 1, modulo q those with e = 1; so an identity of words modulo q is one of the maps; the identities modulo q.
-- Assumes nothing.
use mathlib.Core.Path.{◌≡◌, refl, sym, ◌∙◌, ap, subst}
use mathlib.Core.List.{List, [], ◌∷◌, ◌++◌}
use Prim.Native.Nat.{ℕ, ◌*◌}
use lib.IntN.{ℤ, pos, negsuc, neg_ℤ, ◌-ℤ◌, ◌*ℤ◌}
use Rattle.matrix.specs.Matrix.{Mat, mat, ◌⊗◌, 𝟙}
use Rattle.matrix.specs.Action as action
use Rattle.matrix.specs.Theorems.{Acts}
use Rattle.matrix.proofs.Ring.{con, var, ◌⊕◌, ◌⊙◌, ⊖◌, lit, const, ◌⊛◌, ring_m}
use Rattle.matrix.proofs.Matrix.{⊗-assoc, ⊗-idl, det_one, det_𝟙}
use Rattle.right_cosets.specs.Condition.{Unit}
use Rattle.congruence.specs.Congruence.{Multiple, Modulo}
use Rattle.congruence.proofs.Multiple.{mult_zero}
use Rattle.congruence.proofs.Modulo.{mod_product, mod_sym, mod_refl, mod_trans}
use Rattle.wohlfahrt.proofs.Combine.{combine, combine_m}
use Rattle.wohlfahrt.proofs.Powers.{upper, lower, upperᵉ, lowerᵉ, unit_upper, unit_lower}
use Rattle.wohlfahrt.proofs.Acting.{Trivially, same_mod}
use Rattle.wohlfahrt.proofs.Inverting.{mult_times}
use Rattle.congruence_decision.specs.Units.{Inverses}
use Rattle.congruence_decision.proofs.Relations.{diagonal_by, weyl_by, inverses_times}
use Rattle.congruence_decision.proofs.Braid.{UnitHolds}
use Rattle.congruence_decision.proofs.Part.{part_x, part_y}

-- ---- words of powers of T and L

data Power : Type 0 where
  up low : ℤ → Power

abbrev power : ℤ → Power → Mat
power e (up s) = upper (e *ℤ s)
power e (low s) = lower (e *ℤ s)

abbrev value_at : ℤ → List Power → Mat
value_at e [] = 𝟙
value_at e (k ∷ w) = power e k ⊗ value_at e w

unit_power : (e : ℤ) (k : Power) → Unit (power e k)
unit_power e (up s) = unit_upper (e *ℤ s)
unit_power e (low s) = unit_lower (e *ℤ s)

unit_at : (e : ℤ) (w : List Power) → Unit (value_at e w)
unit_at e [] = det_𝟙
unit_at e (k ∷ w) = det_one (power e k) (value_at e w) (unit_power e k) (unit_at e w)

abbrev plain : Power → Mat
plain (up s) = upper s
plain (low s) = lower s

abbrev plainly : List Power → Mat
plainly [] = 𝟙
plainly (k ∷ w) = plain k ⊗ plainly w

plainly-++ : (u w : List Power) → plainly (u ++ w) ≡ plainly u ⊗ plainly w
plainly-++ [] w = sym (⊗-idl (plainly w))
plainly-++ (k ∷ u) w = ap (λ (m : Mat). plain k ⊗ m) (plainly-++ u w) ∙ sym (⊗-assoc (plain k) (plainly u) (plainly w))

-- ---- modulo r, and modulo q

rest_power : (r : ℕ) (e : ℤ) → Multiple r e → (k : Power) → Modulo r (power e k) 𝟙
unfolding upper lower 𝟙
rest_power r e h (up s) = record {
  a_is = mult_zero;
  b_is = combine (e ∷ s ∷ []) (var 0 ⊙ var 1 ⊕ ⊖ con (pos 0)) (var 1 ⊙ var 0) tt h;
  c_is = mult_zero;
  d_is = mult_zero;
}
rest_power r e h (low s) = record {
  a_is = mult_zero;
  b_is = mult_zero;
  c_is = combine (e ∷ s ∷ []) (var 0 ⊙ var 1 ⊕ ⊖ con (pos 0)) (var 1 ⊙ var 0) tt h;
  d_is = mult_zero;
}

rest_at : (r : ℕ) (e : ℤ) → Multiple r e → (w : List Power) → Modulo r (value_at e w) 𝟙
rest_at r e h [] = mod_refl
rest_at r e h (k ∷ w) = rw (⊗-idl 𝟙) at (mod_product (rest_power r e h k) (rest_at r e h w))

q_power : (q : ℕ) (e : ℤ) → Multiple q (e -ℤ pos 1) → (k : Power) → Modulo q (power e k) (plain k)
unfolding upper lower
q_power q e h (up s) = record {
  a_is = mult_zero;
  b_is = combine (e ∷ s ∷ []) (var 0 ⊙ var 1 ⊕ ⊖ var 1) (var 1 ⊙ (var 0 ⊕ con (negsuc 0))) tt h;
  c_is = mult_zero;
  d_is = mult_zero;
}
q_power q e h (low s) = record {
  a_is = mult_zero;
  b_is = mult_zero;
  c_is = combine (e ∷ s ∷ []) (var 0 ⊙ var 1 ⊕ ⊖ var 1) (var 1 ⊙ (var 0 ⊕ con (negsuc 0))) tt h;
  d_is = mult_zero;
}

q_at : (q : ℕ) (e : ℤ) → Multiple q (e -ℤ pos 1) → (w : List Power) → Modulo q (value_at e w) (plainly w)
q_at q e h [] = mod_refl
q_at q e h (k ∷ w) = mod_product (q_power q e h k) (q_at q e h w)

-- what is 0 modulo q and modulo r is 0 modulo q r: z is e z - (e - 1) z
pub join : (q r : ℕ) (e : ℤ) → Multiple q (e -ℤ pos 1) → Multiple r e → {z : ℤ} → Multiple q z → Multiple r z → Multiple (q * r) z
join q r e one zero {z} h k = combine (e ∷ z ∷ []) (var 1) (con (pos 1) ⊙ (var 1 ⊙ var 0) ⊕ con (negsuc 0) ⊙ ((var 0 ⊕ con (negsuc 0)) ⊙ var 1)) tt
    (mult_times h zero, mult_times one k)

join_mod : (q r : ℕ) (e : ℤ) → Multiple q (e -ℤ pos 1) → Multiple r e → {l m : Mat} → Modulo q l m → Modulo r l m → Modulo (q * r) l m
join_mod q r e one zero h k = record {
  a_is = join q r e one zero h.a_is k.a_is;
  b_is = join q r e one zero h.b_is k.b_is;
  c_is = join q r e one zero h.c_is k.c_is;
  d_is = join q r e one zero h.d_is k.d_is;
}

-- ---- identities modulo q

abbrev hw : ℤ → ℤ → List Power
hw u v = low (v -ℤ pos 1) ∷ up (pos 1) ∷ low (u -ℤ pos 1) ∷ up (neg_ℤ v) ∷ []

abbrev ww : List Power
ww = up (pos 1) ∷ low (negsuc 0) ∷ up (pos 1) ∷ []

abbrev diag : ℤ → ℤ → Mat
diag u v = mat u (pos 0) (pos 0) v

-- H u v is the diagonal matrix; the certificates are in terms of u v - 1
hw_mod : (q : ℕ) (u v : ℤ) → Inverses q u v → Modulo q (plainly (hw u v)) (diag u v)
unfolding upper lower 𝟙
hw_mod q u v h = combine_m (u ∷ v ∷ [])
    (lowerᵉ (var 1 ⊕ con (negsuc 0)) ⊛ (upperᵉ (con (pos 1)) ⊛ (lowerᵉ (var 0 ⊕ con (negsuc 0)) ⊛ (upperᵉ (⊖ var 1) ⊛ const 𝟙))))
    (lit (var 0) (con (pos 0)) (con (pos 0)) (var 1))
    (con (pos 0)) (con (negsuc 0) ⊙ (var 0 ⊙ var 1 ⊕ con (negsuc 0))) (con (pos 1) ⊙ (var 0 ⊙ var 1 ⊕ con (negsuc 0)))
    (⊖ var 1 ⊙ (var 0 ⊙ var 1 ⊕ con (negsuc 0))) tt mult_zero h h h

-- H u v and then a word
hw_then : (q : ℕ) (u v : ℤ) → Inverses q u v → (w : List Power) → Modulo q (plainly (hw u v ++ w)) (diag u v ⊗ plainly w)
hw_then q u v h w = rw (plainly-++ (hw u v) w) (mod_product (hw_mod q u v h) (mod_refl {m = plainly w}))

turns_is : (q : ℕ) (u v : ℤ) → Inverses q u v → Modulo q (diag u v ⊗ plainly (up (pos 1) ∷ [])) (upper (u *ℤ u) ⊗ diag u v)
unfolding upper 𝟙
turns_is q u v h = combine_m (u ∷ v ∷ [])
    (lit (var 0) (con (pos 0)) (con (pos 0)) (var 1) ⊛ (upperᵉ (con (pos 1)) ⊛ const 𝟙))
    (upperᵉ (var 0 ⊙ var 0) ⊛ lit (var 0) (con (pos 0)) (con (pos 0)) (var 1))
    (con (pos 0)) (⊖ var 0 ⊙ (var 0 ⊙ var 1 ⊕ con (negsuc 0))) (con (pos 0)) (con (pos 0)) tt mult_zero h mult_zero mult_zero

flips_is : (q : ℕ) (u v : ℤ) → Inverses q u v → Modulo q (diag u v ⊗ (upper (pos 1) ⊗ (lower (negsuc 0) ⊗ (upper (pos 1) ⊗ diag u v)))) (plainly ww)
unfolding upper lower 𝟙
flips_is q u v h = combine_m (u ∷ v ∷ [])
    (lit (var 0) (con (pos 0)) (con (pos 0)) (var 1)
    ⊛ (upperᵉ (con (pos 1)) ⊛ (lowerᵉ (con (negsuc 0)) ⊛ (upperᵉ (con (pos 1)) ⊛ lit (var 0) (con (pos 0)) (con (pos 0)) (var 1)))))
    (upperᵉ (con (pos 1)) ⊛ (lowerᵉ (con (negsuc 0)) ⊛ (upperᵉ (con (pos 1)) ⊛ const 𝟙)))
    (con (pos 0)) (con (pos 1) ⊙ (var 0 ⊙ var 1 ⊕ con (negsuc 0))) (con (negsuc 0) ⊙ (var 0 ⊙ var 1 ⊕ con (negsuc 0))) (con (pos 0)) tt
    mult_zero h h mult_zero

diag_diag : (u v u' v' : ℤ) → diag u v ⊗ diag u' v' ≡ diag (u *ℤ u') (v *ℤ v')
diag_diag u v u' v' = ring_m (u ∷ v ∷ u' ∷ v' ∷ [])
    (lit (var 0) (con (pos 0)) (con (pos 0)) (var 1) ⊛ lit (var 2) (con (pos 0)) (con (pos 0)) (var 3))
    (lit (var 0 ⊙ var 2) (con (pos 0)) (con (pos 0)) (var 1 ⊙ var 3)) tt

braid_is : plainly ww ≡ plainly (low (negsuc 0) ∷ up (pos 1) ∷ low (negsuc 0) ∷ [])
unfolding upper lower 𝟙 ◌⊗◌
braid_is = refl

fourth_is : plainly (ww ++ (ww ++ (ww ++ ww))) ≡ 𝟙
unfolding upper lower 𝟙 ◌⊗◌
fourth_is = refl

-- ---- the maps

module _ {X : Type 0} {σ κ : X → X} (a : Acts σ κ) where
  abbrev one_power : ℤ → Power → X → X
  one_power e (up s) j = part_x σ κ e s j
  one_power e (low s) j = part_y σ κ e s j

  abbrev lead : ℤ → X → List Power → X
  lead e j [] = j
  lead e j (k ∷ w) = lead e (one_power e k j) w

  power_is : (e : ℤ) (k : Power) (j : X) → action.at σ κ j (power e k) ≡ one_power e k j
  power_is e (up s) j = refl
  power_is e (low s) j = refl

  lead_is : (e : ℤ) (w : List Power) (j : X) → action.at σ κ j (value_at e w) ≡ lead e j w
  lead_is e [] j = a.identity j
  lead_is e (k ∷ w) j = a.product j (power e k) (value_at e w) (unit_power e k) (unit_at e w)
      ∙ ap (λ (i : X). action.at σ κ i (value_at e w)) (power_is e k j) ∙ lead_is e w (one_power e k j)

  module _ (q r : ℕ) (e : ℤ) (one : Multiple q (e -ℤ pos 1)) (zero : Multiple r e) (t : Trivially σ κ (q * r)) where
    same_lead : (u w : List Power) → Modulo q (plainly u) (plainly w) → (j : X) → lead e j u ≡ lead e j w
    same_lead u w h j =
        let m = join_mod q r e one zero (mod_trans (q_at q e one u) (mod_trans h (mod_sym (q_at q e one w))))
        (mod_trans (rest_at r e zero u) (mod_sym (rest_at r e zero w))) in
        sym (lead_is e u j) ∙ same_mod a (q * r) t (value_at e u) (value_at e w) (unit_at e u) (unit_at e w) m j ∙ lead_is e w j

    pub braid_of : (j : X) → weyl_by (part_x σ κ e) (part_y σ κ e) j ≡ part_y σ κ e (negsuc 0) (part_x σ κ e (pos 1) (part_y σ κ e (negsuc 0) j))
    braid_of j = same_lead ww (low (negsuc 0) ∷ up (pos 1) ∷ low (negsuc 0) ∷ []) (rw braid_is mod_refl) j

    abbrev W : X → X
    W j = weyl_by (part_x σ κ e) (part_y σ κ e) j

    pub fourth_of : (j : X) → W (W (W (W j))) ≡ j
    fourth_of j = same_lead (ww ++ (ww ++ (ww ++ ww))) [] (rw fourth_is mod_refl) j

    pub unit_of : (u v : ℤ) → Inverses q u v → UnitHolds q (part_x σ κ e) (part_y σ κ e) u v
    unit_of u v h = record {
      unit = h;
      turn = λ j. same_lead (hw u v ++ (up (pos 1) ∷ [])) (up (u *ℤ u) ∷ hw u v)
          (mod_trans (hw_then q u v h (up (pos 1) ∷ []))
          (mod_trans (turns_is q u v h) (mod_sym (mod_product (mod_refl {m = upper (u *ℤ u)}) (hw_mod q u v h))))) j;
      flip = λ j. same_lead (hw u v ++ (up (pos 1) ∷ low (negsuc 0) ∷ up (pos 1) ∷ hw u v)) ww
          (mod_trans (hw_then q u v h (up (pos 1) ∷ low (negsuc 0) ∷ up (pos 1) ∷ hw u v))
          (mod_trans (mod_product (mod_refl {m = diag u v}) (mod_product (mod_refl {m = upper (pos 1)})
          (mod_product (mod_refl {m = lower (negsuc 0)}) (mod_product (mod_refl {m = upper (pos 1)}) (hw_mod q u v h)))))
          (flips_is q u v h))) j;
    }

    pub product_of : (u v u' v' : ℤ) → Inverses q u v → Inverses q u' v' → (j : X)
        → diagonal_by (part_x σ κ e) (part_y σ κ e) u' v' (diagonal_by (part_x σ κ e) (part_y σ κ e) u v j)
        ≡ diagonal_by (part_x σ κ e) (part_y σ κ e) (u *ℤ u') (v *ℤ v') j
    product_of u v u' v' h k j = same_lead (hw u v ++ hw u' v') (hw (u *ℤ u') (v *ℤ v'))
        (mod_trans (hw_then q u v h (hw u' v'))
        (mod_trans (subst (λ (z : Mat). Modulo q (diag u v ⊗ plainly (hw u' v')) z) (diag_diag u v u' v')
        (mod_product (mod_refl {m = diag u v}) (hw_mod q u' v' k)))
        (mod_sym (hw_mod q (u *ℤ u') (v *ℤ v') (inverses_times u v u' v' h k))))) j

  -- ---- T^e and L^f

  cross_mod : (n : ℕ) (e f : ℤ) → Multiple n (e *ℤ f) → Modulo n (upper e ⊗ lower f) (lower f ⊗ upper e)
  unfolding upper lower
  cross_mod n e f h = combine_m (e ∷ f ∷ []) (upperᵉ (var 0) ⊛ lowerᵉ (var 1)) (lowerᵉ (var 1) ⊛ upperᵉ (var 0))
      (con (pos 1) ⊙ (var 0 ⊙ var 1)) (con (pos 0)) (con (pos 0)) (con (negsuc 0) ⊙ (var 0 ⊙ var 1)) tt h mult_zero mult_zero h

  pub cross_of : (n : ℕ) → Trivially σ κ n → (e f : ℤ) → Multiple n (e *ℤ f) → (j : X)
      → action.at σ κ (action.at σ κ j (upper e)) (lower f) ≡ action.at σ κ (action.at σ κ j (lower f)) (upper e)
  cross_of n t e f h j =
      let x = upper e in
      let y = lower f in
      let u = unit_upper e in
      let v = unit_lower f in
      sym (a.product j x y u v) ∙ same_mod a n t (x ⊗ y) (y ⊗ x) (det_one x y u v) (det_one y x v u) (cross_mod n e f h) j ∙ a.product j y x v u
