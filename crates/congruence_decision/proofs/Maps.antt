-- A program's maps are those of a part of the level, and its equations are those of the part: `PartMaps`, `base-up`, `unit_up`, `products-up` and the same
-- downwards.
--
-- In order: L by S and T; S, X a, T⁻¹ and their products; the arguments of D modulo q; the equations up and down.
-- Assumes nothing.
use mathlib.Core.Path.{◌≡◌, refl, sym, ◌∙◌, ap}
use mathlib.Core.Logic.{inr}
use mathlib.Core.List.{List, [], ◌∷◌}
use Prim.Native.Nat.{ℕ, zero, suc, ◌+◌, ◌-◌, ◌*◌, ◌/◌, ◌%◌, ◌≤◌, ◌<◌}
use native.Mathlib.Omega.{arith}
use native.Mathlib.Nat.{div-add-mod', mod-lt}
use lib.IntN.{ℤ, pos, negsuc, neg_ℤ, ◌-ℤ◌, ◌*ℤ◌}
use Rattle.matrix.specs.Matrix.{Mat, ◌⊗◌, neg, adj, mat_s}
use Rattle.matrix.specs.Words.{S}
use Rattle.matrix.specs.Action as action
use Rattle.matrix.specs.Theorems.{Acts}
use Rattle.matrix.proofs.Ring.{con, var, ◌⊕◌, ◌⊙◌, ⊖◌, ring}
use Rattle.matrix.proofs.Matrix.{det_one, det_adj, det_letter}
use Rattle.permutations.specs.Pair.{image}
use Rattle.figures.specs.Cusps.{times}
use Rattle.right_cosets.specs.Cosets.{CosetsOf}
use Rattle.congruence.specs.Congruence.{Multiple}
use Rattle.congruence.proofs.Multiple.{mult_as, mult_self, mult_zero, mult-*}
use Rattle.congruence.proofs.Prime.{not_one}
use Rattle.wohlfahrt.specs.IsCongruence.{table_level}
use Rattle.wohlfahrt.proofs.Combine.{combine}
use Rattle.wohlfahrt.proofs.Powers.{upper, lower, unit_upper, lower_as}
use Rattle.wohlfahrt.proofs.Acting.{at_upper-+, at_zero_lem, alone_at}
use Rattle.wohlfahrt.proofs.Points.{point_q, acting, S_in, S_out, S_twice, alone_out, times_is, wide_level}
use Rattle.congruence_decision.specs.Units.{Inverses, UnitPair}
use Rattle.congruence_decision.specs.Equations.{weyl, diagonal, beside, BaseEquations, UnitEquations, ProductEquations}
use Rattle.congruence_decision.specs.Maps.{PointMaps, PrimeMaps}
use Rattle.congruence_decision.proofs.Primes.{prime_least, power_big}
use Rattle.congruence_decision.proofs.Relations.{Powers, diagonal_by, weyl_by, H_period}
use Rattle.congruence_decision.proofs.Braid.{UnitHolds}
use Rattle.congruence_decision.proofs.Part.{Part, part_q, part_x, part_y, powers_X, powers_Y}
use Rattle.congruence_decision.proofs.Moving.{Alike, still, ◌next◌, alike_as, up, down}
use Rattle.congruence_decision.proofs.Shares.{shared}

-- S, T^-z, S is L^z
lower_by : {X : Type 0} {σ κ : X → X} (ac : Acts σ κ) (z : ℤ) (j : X) → action.at σ κ j (lower z) ≡ σ (action.at σ κ (σ j) (upper (neg_ℤ z)))
lower_by {X} {σ} {κ} ac z j =
    let t = upper (neg_ℤ z) in
    let u = unit_upper (neg_ℤ z) in
    let v = det_letter S in
    ap (action.at σ κ j) (lower_as z) ∙ ac.product j (mat_s ⊗ t) (adj mat_s) (det_one mat_s t v u) (det_adj mat_s ∙ v)
    ∙ ac.sign (action.at σ κ j (mat_s ⊗ t)) (adj mat_s) mat_s (inr adj_S) ∙ ac.by_S (action.at σ κ j (mat_s ⊗ t))
    ∙ ap σ (ac.product j mat_s t v u ∙ ap (λ (i : X). action.at σ κ i t) (ac.by_S j))
  where
    adj_S : adj mat_s ≡ neg mat_s
    adj_S = unfold adj mat_s neg in refl

-- ---- arguments modulo q

rest_mult : (q a h : ℕ) → a + h ≡ q → Multiple q (pos a -ℤ neg_ℤ (pos h))
rest_mult q a h e = mult_as (ap pos (sym e) ∙ ring (pos a ∷ pos h ∷ []) (var 0 ⊕ var 1) (var 0 ⊕ ⊖ ⊖ var 1) tt) mult_self

one_mult : (q a g : ℕ) → a + g ≡ q + 1 → Multiple q (pos a -ℤ neg_ℤ (pos g -ℤ pos 1))
one_mult q a g e = mult_as
    (ring (pos q ∷ []) (var 0) (var 0 ⊕ con (pos 1) ⊕ con (negsuc 0)) tt ∙ ap (λ (z : ℕ). pos z -ℤ pos 1) (sym e)
    ∙ ring (pos a ∷ pos g ∷ []) (var 0 ⊕ var 1 ⊕ con (negsuc 0)) (var 0 ⊕ ⊖ (⊖ (var 1 ⊕ con (negsuc 0)))) tt) mult_self

pub remainder_mult : (q x : ℕ) → Multiple q (pos (x % q) -ℤ pos x)
remainder_mult q x =
    let k = pos (x / q) in
    let r = pos (x % q) in
    mult_as (ring (k ∷ r ∷ pos q ∷ []) ((⊖ var 0) ⊙ var 2) (var 1 ⊕ ⊖ ((var 0 ⊙ var 2) ⊕ var 1)) tt ∙ ap (λ (z : ℕ). r -ℤ pos z) (div-add-mod' x q))
    (mult-* (neg_ℤ k) mult_self)

-- a unit modulo q isn't 0, where q is above 1
pub unit_some : (q u : ℕ) (v : ℤ) → 1 < q → Inverses q (pos u) v → 0 < u
unit_some q zero v h i = absurd (not_one q h (combine (v ∷ []) (con (pos 1)) (con (negsuc 0) ⊙ (con (pos 0) ⊙ var 0 ⊕ con (negsuc 0))) tt i))
unit_some q (suc u) v h i = omega arith

-- the product of two pairs, below q
pub pair_times : (q g h g' h' : ℕ) → 1 < q → UnitPair q g h → UnitPair q g' h' → UnitPair q (g * g' % q) (h * h' % q)
pair_times q g h g' h' big a b =
    let u = pos (g * g' % q) in
    let v = pos (h * h' % q) in
    let i : Inverses q u v = combine (u ∷ v ∷ pos g ∷ pos h ∷ pos g' ∷ pos h' ∷ []) (var 0 ⊙ var 1 ⊕ con (negsuc 0))
    (var 1 ⊙ (var 0 ⊕ ⊖ (var 2 ⊙ var 4)) ⊕ (var 2 ⊙ var 4 ⊙ (var 1 ⊕ ⊖ (var 3 ⊙ var 5))
    ⊕ (var 4 ⊙ var 5 ⊙ (var 2 ⊙ var 3 ⊕ con (negsuc 0)) ⊕ con (pos 1) ⊙ (var 4 ⊙ var 5 ⊕ con (negsuc 0))))) tt
    (remainder_mult q (g * g'), (remainder_mult q (h * h'), (a.inverses, b.inverses))) in
    let lg = mod-lt (g * g') {m = q} (omega arith) in
    let lh = mod-lt (h * h') {m = q} (omega arith) in
    record {
      g_some = unit_some q (g * g' % q) v big i;
      g_low = omega arith;
      h_some = unit_some q (h * h' % q) u big (combine (u ∷ v ∷ []) (var 1 ⊙ var 0 ⊕ con (negsuc 0)) (con (pos 1) ⊙ (var 0 ⊙ var 1 ⊕ con (negsuc 0))) tt i);
      h_low = omega arith;
      inverses = i;
    }

module _ {C : Mat → Type 0} {n : ℕ} {s r : List ℕ} (c : CosetsOf C n s r) {point S' B : ℕ → ℕ} (P : PointMaps n s r point S' B)
    (b : Part (table_level s r)) {x : ℕ → ℕ → ℕ} (M : PrimeMaps n s r point b.p (part_q b) x) where
  abbrev at : ℕ → Mat → ℕ
  at j m = action.at (image s) (point_q s r) j m

  abbrev Ŝ : ℕ → ℕ
  Ŝ = image s

  abbrev X : ℤ → ℕ → ℕ
  X z j = part_x (image s) (point_q s r) b.e z j

  abbrev Y : ℤ → ℕ → ℕ
  Y z j = part_y (image s) (point_q s r) b.e z j

  abbrev Q : ℕ
  Q = part_q b

  pub PX : Powers (part_q b) (part_x (image s) (point_q s r) b.e)
  PX = powers_X (acting c) (table_level s r) (wide_level c) b

  pub PY : Powers (part_q b) (part_y (image s) (point_q s r) b.e)
  PY = powers_Y (acting c) (table_level s r) (wide_level c) b

  out_at : (m : Mat) (j : ℕ) → n ≤ j → at j m ≡ j
  out_at m j h = alone_at (acting c) (alone_out c j h) m

  -- ---- S, X and T⁻¹

  S_like : Alike n point S' Ŝ
  S_like = record {
    moves = record { low = P.S_moves.low; is = λ y h. P.S_moves.is y h ∙ sym (S_in c (point y) (P.renames.low y h)) };
    out = S_out c;
  }

  X_like : (a : ℕ) (z : ℤ) → Multiple Q (pos a -ℤ z) → Alike n point (x a) (X z)
  X_like a z m = alike_as (λ j. PX.period (pos a) z m j) (record {
    moves = record { low = M.X_low a; is = λ y h. M.X_is a y h ∙ shared c P.renames b y h (M.share y) (M.shares y h) a };
    out = λ j h. out_at (upper (b.e *ℤ pos a)) j h;
  })

  one_like : Alike n point (x 1) (X (pos 1))
  one_like = X_like 1 (pos 1) mult_zero

  B_like : Alike n point B (λ j. at j (upper (negsuc 0)))
  unfolding times
  B_like = record {
    moves = record {
      low = P.B_low;
      is = λ y h.
          let i = point (B y) in
          let e : at i (upper (pos 1)) ≡ point y = times_is c 1 i (P.renames.low (B y) (P.B_low y h)) ∙ P.B_is y h in
          sym (at_zero_lem (acting c) i) ∙ at_upper-+ (acting c) (pos 1) (negsuc 0) i ∙ ap (λ (j : ℕ). at j (upper (negsuc 0))) e;
    };
    out = out_at (upper (negsuc 0));
  }

  Y_by : (z : ℤ) (j : ℕ) → Ŝ (X (neg_ℤ z) (Ŝ j)) ≡ Y z j
  Y_by z j = sym (lower_by (acting c) (b.e *ℤ z) j
      ∙ ap Ŝ (ap (λ (y : ℤ). at (Ŝ j) (upper y)) (ring (b.e ∷ z ∷ []) (⊖ (var 0 ⊙ var 1)) (var 0 ⊙ ⊖ var 1) tt)))

  low_like : (a : ℕ) (z : ℤ) → Multiple Q (pos a -ℤ neg_ℤ z) → Alike n point (λ y. S' (x a (S' y))) (Y z)
  low_like a z m = alike_as (Y_by z) (S_like next X_like a (neg_ℤ z) m next S_like)

  -- ---- W, D and L^(1 - e)

  abbrev U : ℕ → ℕ
  U j = X (pos 1) (Ŝ (X (pos 1) (Ŝ (X (pos 1) j))))

  U_like : Alike n point (weyl S' x) U
  U_like = one_like next S_like next one_like next S_like next one_like

  U_is : (j : ℕ) → U j ≡ weyl_by X Y j
  U_is j = ap (X (pos 1)) (Y_by (negsuc 0) (X (pos 1) j))

  weyl_like : Alike n point (weyl S' x) (weyl_by X Y)
  weyl_like = alike_as U_is U_like

  diagonal_like : (g h : ℕ) → UnitPair Q g h → Alike n point (diagonal S' x Q g h) (diagonal_by X Y (pos g) (pos h))
  diagonal_like g h u =
      low_like (Q + 1 - h) (pos h -ℤ pos 1) (one_mult Q (Q + 1 - h) h (omega (arith, u.h_low)))
      next one_like
      next low_like (Q + 1 - g) (pos g -ℤ pos 1) (one_mult Q (Q + 1 - g) g (omega (arith, u.g_low)))
      next X_like (Q - h) (neg_ℤ (pos h)) (rest_mult Q (Q - h) h (omega (arith, u.h_low)))

  abbrev pub Z : ℕ → ℕ
  Z j = part_y (image s) (point_q s r) (pos 1 -ℤ b.e) (pos 1) j

  Z_by : (j : ℕ) → Ŝ (at (X (pos 1) (Ŝ j)) (upper (negsuc 0))) ≡ Z j
  Z_by j = let e = b.e in
      sym (lower_by (acting c) ((pos 1 -ℤ e) *ℤ pos 1) j
      ∙ ap Ŝ (ap (λ (y : ℤ). at (Ŝ j) (upper y))
      (ring (e ∷ []) (⊖ ((con (pos 1) ⊕ ⊖ var 0) ⊙ con (pos 1))) (var 0 ⊙ con (pos 1) ⊕ con (negsuc 0)) tt)
      ∙ at_upper-+ (acting c) (e *ℤ pos 1) (negsuc 0) (Ŝ j)))

  beside_like : Alike n point (beside S' x B) Z
  beside_like = alike_as Z_by (S_like next one_like next B_like next S_like)

  -- ---- the equations upwards

  pub braid_up : BaseEquations n S' x B → (j : ℕ) → weyl_by X Y j ≡ Y (negsuc 0) (X (pos 1) (Y (negsuc 0) j))
  braid_up k j =
      let e : (j : ℕ) → U (Ŝ j) ≡ Ŝ (U j) = up P.renames (S_like next U_like) (U_like next S_like) k.braid in
      sym (U_is j) ∙ sym (S_twice c (U j)) ∙ ap Ŝ (sym (e j)) ∙ ap (λ (i : ℕ). Ŝ (X (pos 1) (Ŝ (X (pos 1) i)))) (Y_by (negsuc 0) j)
      ∙ Y_by (negsuc 0) (X (pos 1) (Y (negsuc 0) j))

  pub fourth_up : BaseEquations n S' x B → (j : ℕ) → weyl_by X Y (weyl_by X Y (weyl_by X Y (weyl_by X Y j))) ≡ j
  fourth_up k = up P.renames (weyl_like next weyl_like next weyl_like next weyl_like) still k.fourth

  pub crosses_up : BaseEquations n S' x B → (j : ℕ) → X (pos 1) (Z j) ≡ Z (X (pos 1) j)
  crosses_up k = up P.renames (beside_like next one_like) (one_like next beside_like) k.crosses

  square_like : (g : ℕ) → Alike n point (x (g * g % Q)) (X (pos g *ℤ pos g))
  square_like g = X_like (g * g % Q) (pos g *ℤ pos g) (remainder_mult Q (g * g))

  pub unit_up : (g h : ℕ) → UnitPair Q g h → UnitEquations n S' x Q g h → UnitHolds Q X Y (pos g) (pos h)
  unit_up g h u k =
      let d = diagonal_like g h u in
      record {
        unit = u.inverses;
        turn = up P.renames (d next one_like) (square_like g next d) k.turns;
        flip = up P.renames (d next weyl_like next d) weyl_like k.flips;
      }

  pub big : 1 < Q
  big = power_big b.p b.k (prime_least b.p b.prime).big

  -- D of g g' and h h', modulo Q
  product_like : (g h g' h' : ℕ) → UnitPair Q g h → UnitPair Q g' h'
      → Alike n point (diagonal S' x Q (g * g' % Q) (h * h' % Q)) (diagonal_by X Y (pos g *ℤ pos g') (pos h *ℤ pos h'))
  product_like g h g' h' u v = alike_as
      (λ j. H_period Q X Y PX PY (pos (g * g' % Q)) (pos g *ℤ pos g') (pos (h * h' % Q)) (pos h *ℤ pos h') (remainder_mult Q (g * g'))
      (remainder_mult Q (h * h')) j)
      (diagonal_like (g * g' % Q) (h * h' % Q) (pair_times Q g h g' h' big u v))

  pub product_up : (g h g' h' : ℕ) → UnitPair Q g h → UnitPair Q g' h' → ProductEquations n S' x Q g h g' h' → (j : ℕ)
      → diagonal_by X Y (pos g') (pos h') (diagonal_by X Y (pos g) (pos h) j) ≡ diagonal_by X Y (pos g *ℤ pos g') (pos h *ℤ pos h') j
  product_up g h g' h' u v k = up P.renames (diagonal_like g h u next diagonal_like g' h' v) (product_like g h g' h' u v) k

  -- ---- the equations downwards

  pub base_down : ((j : ℕ) → weyl_by X Y j ≡ Y (negsuc 0) (X (pos 1) (Y (negsuc 0) j)))
      → ((j : ℕ) → weyl_by X Y (weyl_by X Y (weyl_by X Y (weyl_by X Y j))) ≡ j) → ((j : ℕ) → X (pos 1) (Z j) ≡ Z (X (pos 1) j)) → BaseEquations n S' x B
  base_down braid fourth crosses = record {
    braid = down P.renames (S_like next U_like) (U_like next S_like) (λ j.
        sym (S_twice c (U (Ŝ j))) ∙ ap Ŝ (ap (λ (i : ℕ). Ŝ (X (pos 1) (Ŝ (X (pos 1) i)))) (Y_by (negsuc 0) j)
        ∙ Y_by (negsuc 0) (X (pos 1) (Y (negsuc 0) j)) ∙ sym (braid j) ∙ sym (U_is j)));
    fourth = down P.renames (weyl_like next weyl_like next weyl_like next weyl_like) still fourth;
    crosses = down P.renames (beside_like next one_like) (one_like next beside_like) crosses;
  }

  pub unit_down : (g h : ℕ) → UnitPair Q g h → UnitHolds Q X Y (pos g) (pos h) → UnitEquations n S' x Q g h
  unit_down g h u k =
      let d = diagonal_like g h u in
      record {
        turns = down P.renames (d next one_like) (square_like g next d) k.turn;
        flips = down P.renames (d next weyl_like next d) weyl_like k.flip;
      }

  pub product_down : (g h g' h' : ℕ) → UnitPair Q g h → UnitPair Q g' h'
      → ((j : ℕ) → diagonal_by X Y (pos g') (pos h') (diagonal_by X Y (pos g) (pos h) j) ≡ diagonal_by X Y (pos g *ℤ pos g') (pos h *ℤ pos h') j)
      → ProductEquations n S' x Q g h g' h'
  product_down g h g' h' u v k = down P.renames (diagonal_like g h u next diagonal_like g' h' v) (product_like g h g' h' u v) k
