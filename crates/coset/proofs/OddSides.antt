-- In the tables of a symbol R fixes as many points as the symbol has odd sides: `odd_sides`.
-- Why: R is S Q⁻¹ S, so that R fixes a position where Q fixes its S image; Q moves every corner, so that this image is the outer face of an odd side.
-- Assumes nothing.
use mathlib.Core.Path.{◌≡◌, sym, ◌∙◌, ap}
use mathlib.Core.Bool.{true}
use mathlib.Core.List.{List}
use Prim.Native.Nat.{ℕ, ◌+◌, ◌-◌, ◌%◌, ◌≤◌, ◌<◌}
use native.Mathlib.Omega.{arith}
use native.Mathlib.Decide.{dec_lt, ℕ_discrete}
use lib.IntN.{ℤ}
use Rattle.matrix.specs.Words.{S}
use Rattle.basics.specs.Count.{count}
use Rattle.polygon.specs.Cut.{corners, outer}
use Rattle.polygon.specs.Step.{odd_at, Real, step_s, turn_q}
use Rattle.polygon.specs.Theorem.{Polygon}
use Rattle.polygon.proofs.Flip.{turn_face, turn_last, turn_next, real_face, real_odd}
use Rattle.figures.specs.Cusps.{fixed_points}
use Rattle.coset.specs.Tables.{step_r, table_r}
use Rattle.coset.proofs.Theorem.{ρ_is, names}
use Rattle.coset.proofs.FixedPoints.{FaceOf, fixed_sides}

-- Q moves every corner
corner_moves : (v p : ℕ) → p < corners v → turn_q v p ≡ p → ⊥
corner_moves v p h e = elim (ℕ_discrete (p % 3) 2) [
  | yes z ↦ let k = turn_last v p h z in omega arith
  | no z ↦ let k = turn_next v p h z in omega arith
]

module _ (v : ℕ) (t : List ℤ) (g : Polygon v t) where
  abbrev σ : ℕ → ℕ
  σ = step_s v t

  abbrev κ : ℕ → ℕ
  κ = turn_q v

  abbrev ρ : ℕ → ℕ
  ρ = step_r v t

  turned_fixed : (x : ℕ) → ρ x ≡ x → κ (σ x) ≡ σ x
  turned_fixed x e =
      let a : κ (κ (σ x)) ≡ σ x = sym (g.involution (κ (κ (σ x)))) ∙ ap σ (sym (ρ_is v t g x) ∙ e) in
      sym (ap κ a) ∙ g.order_three (σ x)

  fixed_turned : (x : ℕ) → κ (σ x) ≡ σ x → ρ x ≡ x
  fixed_turned x e = ρ_is v t g x ∙ ap (λ (y : ℕ). σ (κ y)) e ∙ ap σ e ∙ g.involution x

  at_face : (x : ℕ) → Real v t x → ρ x ≡ x → FaceOf v (odd_at v t) (σ x)
  at_face x real e =
      let y = σ x in
      let r = g.closed S x real in
      let k = turned_fixed x e in
      let c : corners v ≤ y = elim (dec_lt y (corners v)) [ yes z ↦ absurd (corner_moves v y z k) | no z ↦ omega arith ] in
      let o : y ≡ outer v (y - corners v) = omega arith in
      record { side = y - corners v; low = omega (arith, g.within y r); passes = real_odd v t y (y - corners v) o r; is = o }

  under_odd : (i : ℕ) → i ≤ v → odd_at v t i ≡ true → Real v t (σ (outer v i)) × (ρ (σ (outer v i)) ≡ σ (outer v i))
  under_odd i h e =
      let y = outer v i in
      let k : κ (σ (σ y)) ≡ σ (σ y) = ap κ (g.involution y) ∙ turn_face v y (omega arith) ∙ sym (g.involution y) in
      (g.closed S y (real_face v t i ∙ e), fixed_turned (σ y) k)

  pub odd_sides : fixed_points (table_r v t) ≡ count (odd_at v t) (v + 1)
  odd_sides = fixed_sides v t g ρ σ (table_r v t) (odd_at v t) (names v t g).R g.involution at_face under_odd
