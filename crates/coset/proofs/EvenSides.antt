-- In the tables of a symbol S fixes as many points as the symbol has even sides: `even_sides`.
-- Why: S goes to the other side of an edge, or out through a free side to its partner, which is another side; it stays only under an even side.
-- Assumes nothing.
use mathlib.Core.Path.{◌≡◌, sym, ◌∙◌, ap}
use mathlib.Core.Bool.{Bool, true, false}
use mathlib.Core.List.{List}
use Prim.Native.Nat.{ℕ, ◌+◌, ◌≤◌, ◌<◌}
use native.Mathlib.Omega.{arith}
use lib.IntN.{ℤ, negsuc}
use Rattle.basics.specs.Count.{count}
use Rattle.symbol.specs.Table.{pairing_entry, pairing_of}
use Rattle.symbol.specs.Check.{eq_z}
use Rattle.symbol.specs.Symbol.{IsSymbol}
use Rattle.symbol.specs.declared.Pairing.{Pairing}
use Rattle.symbol.specs.declared.Pairing.TheVariants.{Even, Odd, Free, Bad}
use Rattle.symbol.proofs.Choice.{eq_z_true, eq_eq_z}
use Rattle.symbol.proofs.Pairings as Pairings
use Rattle.pairing.specs.Generator.{partner, pairing_at}
use Rattle.polygon.specs.Cut.{corners, outer, places, flip}
use Rattle.polygon.specs.Step.{odd_at, Real, cross_by, step_s}
use Rattle.polygon.specs.Theorem.{Polygon}
use Rattle.polygon.proofs.Flip.{cutting, real_in}
use Rattle.polygon.proofs.Steps.{Beyond, crosses, even_side_lem, free_side, beyond, step_face, under_real}
use Rattle.figures.specs.Cusps.{fixed_points}
use Rattle.coset.specs.Tables.{table_s}
use Rattle.coset.specs.Answer.{even_at}
use Rattle.coset.proofs.Theorem.{names}
use Rattle.coset.proofs.FixedPoints.{FaceOf, fixed_sides}

-- only -2 stands for an even side
even_entry : (v : ℕ) (x : ℤ) → pairing_of v x ≡ Even → eq_z x (negsuc 1) ≡ true
even_entry v x e = go (Pairings.pairing_view v x)
  where
    go : Pairings.PairingView v x → eq_z x (negsuc 1) ≡ true
    go (Pairings.even a b) = eq_eq_z x (negsuc 1) a
    go (Pairings.odd a b) = let z : ◌≡◌ {A = ℕ} 0 1 = cc in absurd (omega arith)
    go (Pairings.free l a low high b) = let z : ◌≡◌ {A = ℕ} 0 1 = cc in absurd (omega arith)
    go (Pairings.bad b) = let z : ◌≡◌ {A = ℕ} 0 1 = cc in absurd (omega arith)

module _ (v : ℕ) (t : List ℤ) (ok : IsSymbol v t) (g : Polygon v t) where
  at_face : (x : ℕ) → Real v t x → step_s v t x ≡ x → FaceOf v (even_at v t) (flip v t x)
  at_face x real e = go (beyond v t ok (cutting v t ok) x real)
    where
      go : Beyond v t x → FaceOf v (even_at v t) (flip v t x)
      go (crosses r s w) = absurd (g.cut.differs x (g.within x real) (sym e ∙ s))
      go (even_side_lem i h f k o s w) = record { side = i; low = h; passes = even_entry v (pairing_entry v t i) k; is = f }
      go (free_side i l h f k o m s w) =
          let j = partner v t i in
          let y : flip v t x ≡ outer v j = ap (flip v t) (sym e ∙ s) ∙ g.cut.flips (outer v j) in
          absurd (m.other (omega (arith, sym f ∙ y)))

  under_even : (i : ℕ) → i ≤ v → even_at v t i ≡ true → Real v t (flip v t (outer v i)) × (step_s v t (flip v t (outer v i)) ≡ flip v t (outer v i))
  under_even i h e =
      let x = flip v t (outer v i) in
      let is = eq_z_true (pairing_entry v t i) (negsuc 1) e in
      let r = under_real v t ok (cutting v t ok) i h (ap (λ (z : ℤ). eq_z z (negsuc 2)) is) in
      let k : pairing_at v t i ≡ Even = ap (pairing_of v) is in (
        r,
        step_face v t x i r (g.cut.flips (outer v i))
            ∙ ap (λ (z : Pairing). cross_by z x (outer v i) (flip v t (outer v (partner v t i)))) k,
      )

  pub even_sides : fixed_points (table_s v t) ≡ count (even_at v t) (v + 1)
  even_sides = fixed_sides v t g (step_s v t) (flip v t) (table_s v t) (even_at v t) (names v t g).S g.cut.flips at_face under_even
