-- A set with an involution σ and a map κ of order three, on which the matrices of determinant 1 act on the right.
--
--   Fixes j m            the matrix m fixes the point j
--   Still m              it fixes every point
--   Trivially n          each matrix that is 1 or -1 modulo n does: Γ(n) acts trivially
--   Wide n               T^n fixes every point: n is a multiple of the width of each cusp
--   To o j, Alone j      some matrix leads from o to j; σ and κ leave j where it is
--   Everywhere o         each point is where some matrix leads from o, or alone: numbers that are no points of a table are
--   Inside n o           each matrix that is 1 or -1 modulo n fixes o
--
-- In order: products, inverses and conjugates of still matrices; powers of T and L by multiples of a width; matrices that are equal
-- modulo n lead alike where Γ(n) acts trivially; and it does where it fixes o, since Γ(n) is normal.
-- Assumes nothing.
use mathlib.Core.Path.{◌≡◌, refl, sym, ◌∙◌, ap}
use mathlib.Core.Logic.{◌⊎◌, inl, inr}
use mathlib.Core.List.{List, [], ◌∷◌}
use Prim.Native.Nat.{ℕ, zero, suc, ◌+◌}
use native.Mathlib.Omega.{arith}
use lib.IntN.{ℤ, pos, negsuc, neg_ℤ, ◌+ℤ◌, ◌*ℤ◌}
use Rattle.matrix.specs.Matrix.{Mat, ◌⊗◌, 𝟙, neg, adj, mat_s}
use Rattle.matrix.specs.Words.{Letter, S, Q, P}
use Rattle.matrix.specs.Euclid.{word_of}
use Rattle.matrix.specs.Action as action
use Rattle.matrix.specs.Theorems.{Acts}
use Rattle.matrix.proofs.Ring.{con, var, ◌⊕◌, ◌⊙◌, ⊖◌, ring, const, ◌⊛◌, ∼◌, adjᵉ, block, ring_m}
use Rattle.matrix.proofs.Matrix.{⊗-assoc, ⊗-idr, det_one, det_adj, det_letter, ⊗-adj, adj-⊗}
use Rattle.right_cosets.specs.Condition.{Unit}
use Rattle.congruence.specs.Congruence.{Multiple, Modulo, Gamma}
use Rattle.congruence.proofs.Multiple.{mult_neg}
use Rattle.congruence.proofs.Modulo.{mod_product, mod_refl}
use Rattle.wohlfahrt.proofs.Powers.{upper, lower, unit_upper, upper-+, lower_as, upper_zero}

module _ {X : Type 0} (σ κ : X → X) where
  abbrev pub Fixes : X → Mat → Type 0
  Fixes j m = action.at σ κ j m ≡ j

  abbrev pub Trivially : ℕ → Type 0
  Trivially n = (m : Mat) → Unit m → Gamma n m → (j : X) → Fixes j m

  abbrev pub Wide : ℕ → Type 0
  Wide n = (j : X) → Fixes j (upper (pos n))

  abbrev pub Inside : ℕ → X → Type 0
  Inside n o = (m : Mat) → Unit m → Gamma n m → Fixes o m

pub record To {X : Type 0} (σ κ : X → X) (o j : X) : Type 0 where
  pub matrix : Mat
  pub unit : Unit matrix
  pub is : action.at σ κ o matrix ≡ j

pub record Alone {X : Type 0} (σ κ : X → X) (j : X) : Type 0 where
  pub by_σ : σ j ≡ j
  pub by_κ : κ j ≡ j

abbrev pub Everywhere : {X : Type 0} (σ κ : X → X) → X → Type 0
Everywhere {X} σ κ o = (j : X) → To σ κ o j ⊎ Alone σ κ j

pub one_more : (k : ℕ) → suc k ≡ k + 1
one_more k = omega arith

module _ {X : Type 0} {σ κ : X → X} (acts : Acts σ κ) where
  -- ---- matrices that fix every point

  abbrev pub Still : Mat → Type 0
  Still m = (j : X) → action.at σ κ j m ≡ j

  pub still_as : {l m : Mat} → l ≡ m → Still m → Still l
  still_as e h j = ap (action.at σ κ j) e ∙ h j

  pub still-⊗ : (l m : Mat) → Unit l → Unit m → Still l → Still m → Still (l ⊗ m)
  still-⊗ l m u w h k j = acts.product j l m u w ∙ ap (λ (i : X). action.at σ κ i m) (h j) ∙ k j

  pub still_conj : (l m : Mat) → Unit l → Unit m → Still m → Still (l ⊗ m ⊗ adj l)
  still_conj l m u w h j =
      let v = det_adj l ∙ u in
      acts.product j (l ⊗ m) (adj l) (det_one l m u w) v
      ∙ ap (λ (i : X). action.at σ κ i (adj l)) (acts.product j l m u w ∙ h (action.at σ κ j l))
      ∙ sym (acts.product j l (adj l) u v) ∙ ap (action.at σ κ j) (⊗-adj l u) ∙ acts.identity j

  -- ---- powers of T at one point, and powers of T and L everywhere

  pub at_upper-+ : (s t : ℤ) (j : X) → action.at σ κ j (upper (s +ℤ t)) ≡ action.at σ κ (action.at σ κ j (upper s)) (upper t)
  at_upper-+ s t j = ap (action.at σ κ j) (upper-+ s t) ∙ acts.product j (upper s) (upper t) (unit_upper s) (unit_upper t)

  pub at_zero_lem : (j : X) → action.at σ κ j (upper (pos 0)) ≡ j
  at_zero_lem j = ap (action.at σ κ j) upper_zero ∙ acts.identity j

  abbrev at_same : {s t : ℤ} → s ≡ t → (j : X) → action.at σ κ j (upper s) ≡ action.at σ κ j (upper t)
  at_same e j = ap (λ (z : ℤ). action.at σ κ j (upper z)) e

  module _ (j : X) (w : ℤ) (fixed : action.at σ κ j (upper w) ≡ j) where
    fixed_up : (m : ℕ) → action.at σ κ j (upper (pos m *ℤ w)) ≡ j
    fixed_up zero = at_same (ring (w ∷ []) (con (pos 0) ⊙ var 0) (con (pos 0)) tt) j ∙ at_zero_lem j
    fixed_up (suc m) =
        ap (λ (z : ℕ). action.at σ κ j (upper (pos z *ℤ w))) (one_more m)
        ∙ at_same (ring (pos m ∷ w ∷ []) ((var 0 ⊕ con (pos 1)) ⊙ var 1) (var 1 ⊕ var 0 ⊙ var 1) tt) j
        ∙ at_upper-+ w (pos m *ℤ w) j ∙ ap (λ (i : X). action.at σ κ i (upper (pos m *ℤ w))) fixed ∙ fixed_up m

    fixed_back : (z : ℤ) → action.at σ κ j (upper z) ≡ j → action.at σ κ j (upper (neg_ℤ z)) ≡ j
    fixed_back z h =
        ap (λ (i : X). action.at σ κ i (upper (neg_ℤ z))) (sym h) ∙ sym (at_upper-+ z (neg_ℤ z) j)
        ∙ at_same (ring (z ∷ []) (var 0 ⊕ ⊖ var 0) (con (pos 0)) tt) j ∙ at_zero_lem j

    pub fixed_all : (m : ℤ) → action.at σ κ j (upper (m *ℤ w)) ≡ j
    fixed_all (pos m) = fixed_up m
    fixed_all (negsuc m) =
        at_same (ring (pos (suc m) ∷ w ∷ []) (⊖ var 0 ⊙ var 1) (⊖ (var 0 ⊙ var 1)) tt) j
        ∙ fixed_back (pos (suc m) *ℤ w) (fixed_up (suc m))

  pub fixed_mult : (j : X) (w : ℕ) → action.at σ κ j (upper (pos w)) ≡ j → (z : ℤ) → Multiple w z → action.at σ κ j (upper z) ≡ j
  fixed_mult j w h z m = at_same m.is j ∙ fixed_all j (pos w) h m.times

  module _ (n : ℕ) (wide : Wide σ κ n) where
    pub still_upper : (s : ℤ) → Multiple n s → Still (upper s)
    still_upper s h j = fixed_mult j n (wide j) s h

    pub still_lower : (s : ℤ) → Multiple n s → Still (lower s)
    still_lower s h = still_as (lower_as s)
        (still_conj mat_s (upper (neg_ℤ s)) (det_letter S) (unit_upper (neg_ℤ s)) (still_upper (neg_ℤ s) (mult_neg h)))

  -- ---- matrices that are equal modulo n

  pub same_mod : (n : ℕ) → Trivially σ κ n → (l m : Mat) → Unit l → Unit m → Modulo n l m → (j : X)
      → action.at σ κ j l ≡ action.at σ κ j m
  same_mod n h l m u w e j =
      let v = det_adj m ∙ w in
      let k = l ⊗ adj m in
      let x = det_one l (adj m) u v in
      let back : k ⊗ m ≡ l = ⊗-assoc l (adj m) m ∙ ap (λ (z : Mat). l ⊗ z) (adj-⊗ m w) ∙ ⊗-idr l in
      let one : Modulo n (l ⊗ adj m) (m ⊗ adj m) = mod_product e (mod_refl {m = adj m}) in
      let is : Modulo n k 𝟙 = rw (⊗-adj m w) at one in
      ap (action.at σ κ j) (sym back) ∙ acts.product j k m x w ∙ ap (λ (i : X). action.at σ κ i m) (h k x (inl is) j)

  -- ---- Γ(n) is normal

  conj_mod : (n : ℕ) (l m z : Mat) → Modulo n m z → Modulo n (l ⊗ m ⊗ adj l) (l ⊗ z ⊗ adj l)
  conj_mod n l m z h = mod_product (mod_product (mod_refl {m = l}) h) (mod_refl {m = adj l})

  conj_one : (l : Mat) → Unit l → l ⊗ 𝟙 ⊗ adj l ≡ 𝟙
  conj_one l u = ap (λ (z : Mat). z ⊗ adj l) (⊗-idr l) ∙ ⊗-adj l u

  conj_neg : (l : Mat) → Unit l → l ⊗ neg 𝟙 ⊗ adj l ≡ neg 𝟙
  unfolding 𝟙
  conj_neg l u =
      ring_m (l.a ∷ l.b ∷ l.c ∷ l.d ∷ []) (block 0 ⊛ ∼ const 𝟙 ⊛ adjᵉ (block 0)) (∼ (block 0 ⊛ adjᵉ (block 0))) tt ∙ ap neg (⊗-adj l u)

  conj_gamma : (n : ℕ) (l m : Mat) → Unit l → Gamma n m → Gamma n (l ⊗ m ⊗ adj l)
  conj_gamma n l m u (inl h) = inl (rw (conj_one l u) at (conj_mod n l m 𝟙 h))
  conj_gamma n l m u (inr h) = inr (rw (conj_neg l u) at (conj_mod n l m (neg 𝟙) h))

  reached_still : (n : ℕ) (o : X) → Inside σ κ n o → (m : Mat) → Unit m → Gamma n m → (j : X) → To σ κ o j → action.at σ κ j m ≡ j
  reached_still n o inside m u h j t =
      let l = t.matrix in
      let v = det_adj l ∙ t.unit in
      let c = l ⊗ m ⊗ adj l in
      let x = det_one (l ⊗ m) (adj l) (det_one l m t.unit u) v in
      let away : c ⊗ l ≡ l ⊗ m = ⊗-assoc (l ⊗ m) (adj l) l ∙ ap (λ (z : Mat). l ⊗ m ⊗ z) (adj-⊗ l t.unit) ∙ ⊗-idr (l ⊗ m) in
      ap (λ (i : X). action.at σ κ i m) (sym t.is) ∙ sym (acts.product o l m t.unit u) ∙ ap (action.at σ κ o) (sym away)
      ∙ acts.product o c l x t.unit ∙ ap (λ (i : X). action.at σ κ i l) (inside c x (conj_gamma n l m t.unit h)) ∙ t.is

  alone_run : {j : X} → Alone σ κ j → (w : List Letter) → action.run σ κ j w ≡ j
  alone_run k [] = refl
  alone_run k (S ∷ w) = ap (λ (i : X). action.run σ κ i w) k.by_σ ∙ alone_run k w
  alone_run k (Q ∷ w) = ap (λ (i : X). action.run σ κ i w) k.by_κ ∙ alone_run k w
  alone_run k (P ∷ w) = ap (λ (i : X). action.run σ κ i w) (ap κ k.by_κ ∙ k.by_κ) ∙ alone_run k w

  pub alone_at : {j : X} → Alone σ κ j → (m : Mat) → action.at σ κ j m ≡ j
  unfolding action.at
  alone_at k m = alone_run k (word_of m)

  pub inside_all : (n : ℕ) (o : X) → Everywhere σ κ o → Inside σ κ n o → Trivially σ κ n
  inside_all n o all inside m u h j = elim (all j) [
    | inl t ↦ reached_still n o inside m u h j t
    | inr k ↦ alone_at k m
  ]
