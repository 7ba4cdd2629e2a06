-- The points that a table fixes, counted by sides: `fixed_sides`, for a map f of positions and its table.
-- Why: an involution φ of positions pairs the fixed positions with the outer faces of the sides that pass a test; so there are as many points as sides.
--
--   FaceOf v test y    y is the outer face of a side that passes the test
--
-- Assumes nothing.
use mathlib.Core.Path.{◌≡◌, sym, ◌∙◌, ap}
use mathlib.Core.Bool.{Bool, true}
use mathlib.Core.List.{List}
use Prim.Native.Nat.{ℕ, ◌+◌, ◌-◌, ◌≤◌, ◌<◌}
use native.Mathlib.Omega.{arith}
use lib.ListN.{length, get_or}
use lib.IntN.{ℤ}
use borrow.Author.Tests.{eq-eqb, eqb-true}
use Rattle.basics.specs.Count.{count}
use Rattle.basics.proofs.Count.{length_those}
use Rattle.polygon.specs.Cut.{corners, outer}
use Rattle.polygon.specs.Step.{Real}
use Rattle.polygon.specs.Theorem.{Polygon}
use Rattle.numbering.specs.Find.{find}
use Rattle.numbering.specs.Table.{image_at, Natural}
use Rattle.numbering.proofs.Find.{get_d_find, get_d_in}
use Rattle.numbering.proofs.Table.{natural_fixed, fixed_natural}
use Rattle.numbering.proofs.Those.{Matched, those_matched}
use Rattle.figures.specs.Cusps.{is_fixed, fixed_points}
use Rattle.coset.specs.Tables.{cosets}
use Rattle.coset.proofs.Theorem.{listed_real, numbers, member}

pub record FaceOf (v : ℕ) (test : ℕ → Bool) (y : ℕ) : Type 0 where
  pub side : ℕ
  pub low : side ≤ v
  pub passes : test side ≡ true
  pub is : y ≡ outer v side

module _ (v : ℕ) (t : List ℤ) (g : Polygon v t) (f φ : ℕ → ℕ) (table : List ℕ) (test : ℕ → Bool) (named : Natural (cosets v t) f table)
    (twice : (x : ℕ) → φ (φ x) ≡ x) (to : (x : ℕ) → Real v t x → f x ≡ x → FaceOf v test (φ x))
    (from : (i : ℕ) → i ≤ v → test i ≡ true → Real v t (φ (outer v i)) × (f (φ (outer v i)) ≡ φ (outer v i))) where
  abbrev list : List ℕ
  list = cosets v t

  abbrev side_of : ℕ → ℕ
  side_of j = φ (get_or list j 0) - corners v

  abbrev point_of : ℕ → ℕ
  point_of i = find list (φ (outer v i))

  at_side_lem : (j : ℕ) → j < length table → is_fixed table j ≡ true → Matched test (v + 1) point_of j (side_of j)
  at_side_lem j h e =
      let x = get_or list j 0 in
      let l : j < length list = omega (arith, named.long) in
      let r = listed_real v t g x ((numbers v t g).only x (get_d_in list j l)) in
      let y = to x r (fixed_natural (numbers v t g).once named j l (eqb-true (image_at table j) j e)) in
      let at : side_of j ≡ y.side = omega (arith, y.is) in
      record {
        low = omega (arith, at, y.low);
        passes = ap test at ∙ y.passes;
        back = ap point_of at ∙ ap (λ (z : ℕ). find list (φ z)) (sym y.is) ∙ ap (find list) (twice x) ∙ (numbers v t g).once.place j l;
      }

  at_point : (i : ℕ) → i < v + 1 → test i ≡ true → Matched (is_fixed table) (length table) side_of i (point_of i)
  at_point i h e =
      let x = φ (outer v i) in
      let k = from i (omega arith) e in
      let m = member v t g x k.0 in
      let at_x = get_d_find list x m in
      let fixed : f (get_or list (find list x) 0) ≡ get_or list (find list x) 0 = ap f at_x ∙ k.1 ∙ sym at_x in
      let here : φ (get_or list (find list x) 0) ≡ outer v i = ap φ at_x ∙ twice (outer v i) in
      record {
        low = omega (arith, named.long);
        passes = eq-eqb (image_at table (find list x)) (find list x) (natural_fixed (numbers v t g).once named (find list x) m fixed);
        back = omega arith;
      }

  pub fixed_sides : fixed_points table ≡ count test (v + 1)
  fixed_sides = those_matched (is_fixed table) test (length table) (v + 1) side_of point_of at_side_lem at_point ∙ length_those test (v + 1)
