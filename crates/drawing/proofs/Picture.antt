-- WHAT A DRAWING MEANS: nothing is lost before a division, each side is near the exact one, a line's place is exact, and the box is tight (`picture`).
-- Why: the box's borders are the least and the greatest of finite floats, by the laws of floats; the top isn't a line's 0 where an arc rises above it.
-- Assumes nothing.
use mathlib.Core.Path.{◌≡◌, refl, sym, ap, ◌∙◌}
use mathlib.Core.List.{List}
use Prim.Native.Nat.{ℕ, suc, ◌+◌, ◌≤◌}
use native.Mathlib.Omega.{arith}
use native.Mathlib.Numerals.{add-one}
use lib.Dec.{T}
use lib.IntN.{ℤ}
use lib.Ieee.{Float, lt, le}
use Rattle.symbol.specs.Table.{side_at}
use Rattle.drawing.proofs.Extreme.{least_one, greatest_one, least_below, greatest_above, least_finite, greatest_finite}
use Rattle.drawing.specs.Quotient.{float_of}
use Rattle.drawing.specs.Extreme.{greatest_of}
use Rattle.drawing.proofs.Order.{not_back}
use Rattle.drawing.specs.Drawn.{drawn_at, height}
use Rattle.drawing.specs.Bounding.{lefts, rights, heights, box_to, Radius, Tight}
use Rattle.drawing.specs.Answer.{Picture}
use Rattle.drawing.specs.Inner.Ready.{SmallSymbol}
use Rattle.drawing.specs.declared.Drawn.{Drawn}
use Rattle.drawing.specs.declared.Drawn.TheVariants.{Line, Arc}
use Rattle.drawing.proofs.Shape.{Shaped, shaped, zero_finite, carried_over, near_exact, exact_place}
use Rattle.drawing.proofs.Rows.{drawable_side}

module _ (v : ℕ) (t : List ℤ) (s : SmallSymbol v t) where
  each : (i : ℕ) → i ≤ v → Shaped (drawn_at v t i)
  each i h = shaped (side_at v t i) (drawable_side v t s i h)

  rising : (i : ℕ) (c r : Float) → i ≤ v → drawn_at v t i ≡ Arc c r → T (lt (float_of 0) (heights v t i))
  rising i c r h e = rw (ap height e) ((each i h).rises c r e)

  abbrev highest : Float
  highest = greatest_of (heights v t) (suc v)

  above : (i : ℕ) → i ≤ v → T (le (heights v t i) highest)
  above i h = greatest_above (heights v t) v (λ k m. (each k m).height_finite) (suc v) (omega arith) i (omega arith)

  -- the top is the height of the side k, drawn as d
  top_by : (P : Type 0) (k : ℕ) → highest ≡ heights v t k
      → ((c r : Float) → drawn_at v t k ≡ Arc c r → highest ≡ r → P)
      → (highest ≡ float_of 0 → P) → P
  top_by P k is arc line = go (drawn_at v t k) refl
    where
      go : (d : Drawn) → drawn_at v t k ≡ d → P
      go (Line x) e = line (is ∙ ap height e)
      go (Arc c r) e = arc c r e (is ∙ ap height e)

  top_arc : (i : ℕ) (c r : Float) → i ≤ v → drawn_at v t i ≡ Arc c r → Radius v t highest
  top_arc i c r h e =
      let o = greatest_one (heights v t) v in
      top_by (Radius v t highest) o.at o.is
      (λ c' r' e' g. record { at = o.at; on = let l = o.on in omega arith; centre = c'; is = e' ∙ ap (Arc c') (sym g) })
      (λ g. absurd (not_back (float_of 0) (heights v t i) zero_finite (each i h).height_finite (rising i c r h e) (rw g at (above i h))))

  top_flat : ((i : ℕ) (c r : Float) → i ≤ v → drawn_at v t i ≡ Arc c r → ⊥) → highest ≡ float_of 0
  top_flat none =
      let o = greatest_one (heights v t) v in
      top_by (highest ≡ float_of 0) o.at o.is
      (λ c r e g. absurd (none o.at c r (let l = o.on in omega arith) e)) (λ g. g)

  tight_suc : Tight v t (box_to v t (suc v))
  tight_suc =
      let l = lefts v t in
      let r = rights v t in
      let u = heights v t in
      record {
        left = λ i h. least_below l v (λ k m. (each k m).left_finite) (suc v) (omega arith) i (omega arith);
        right = λ i h. greatest_above r v (λ k m. (each k m).right_finite) (suc v) (omega arith) i (omega arith);
        bottom = refl;
        top = above;
        left_one = rw add-one (least_one l v);
        right_one = rw add-one (greatest_one r v);
        top_one = rw add-one (greatest_one u v);
        in_order_is = λ i h. (each i h).in_order_is;
        rises = λ i c x h e. (each i h).rises c x e;
        top_arc = top_arc;
        top_flat = top_flat;
        left_finite = least_finite l v (λ k m. (each k m).left_finite) (suc v) (omega arith);
        right_finite = greatest_finite r v (λ k m. (each k m).right_finite) (suc v) (omega arith);
        top_finite = greatest_finite u v (λ k m. (each k m).height_finite) (suc v) (omega arith);
      }

  pub tight : Tight v t (box_to v t (v + 1))
  tight = rw add-one tight_suc

  pub picture : Picture v t
  picture = record {
    symbol = s.symbol;
    small = s.small;
    carried = λ i h. carried_over (side_at v t i) (drawable_side v t s i h);
    near = λ i h. near_exact (side_at v t i) (drawable_side v t s i h);
    exact = λ i x h e. exact_place (side_at v t i) (drawable_side v t s i h) (s.symbol.neighbours i h) x e;
    box = tight;
  }
