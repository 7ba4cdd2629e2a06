-- The tables of a passport are a transitive pair on which S twice and R three times move nothing (`passport_pair`). So every cycle of R is one point or
-- three, and 3 DIVIDES the number of points that R moves: `thirds_needed`.
-- Assumes nothing.
use mathlib.Core.Path.{◌≡◌, sym, ap, ◌∙◌}
use mathlib.Core.List.{List}
use Prim.Native.Nat.{ℕ, ◌+◌, ◌-◌, ◌*◌, ◌<◌}
use native.Mathlib.Omega.{arith}
use lib.ListN.{length}
use Rattle.numbering.specs.Order.{Reached, here, by_σ, by_ρ}
use Rattle.numbering.specs.Table.{image_at}
use Rattle.numbering.proofs.Those.{those_few}
use Rattle.figures.specs.Cusps.{is_fixed, fixed_points}
use Rattle.figures.specs.RiemannHurwitz.{cycle_number}
use Rattle.figures.specs.Genus.{CosetPair}
use Rattle.figures.proofs.Orders.{order_three}
use Rattle.permutations.specs.Pair.{image}
use Rattle.permutations.specs.Check.{Passport}
use Rattle.permutations.proofs.Images.{image_in}
use Rattle.permutations.proofs.Pair.{passport_S, passport_R}
use Rattle.import_call.specs.Import.{needed_vertices}

module _ {s r : List ℕ} (g : Passport s r) where
  s_at : (x : ℕ) → x < length s → image_at s x ≡ image s x
  s_at x h = sym (image_in s x 0 h)

  r_at : (x : ℕ) → x < length r → image_at r x ≡ image r x
  r_at x h = sym (image_in r x 0 h)

  -- a walk from 0 stays among the points, where the tables have their images
  walk : {x : ℕ} → Reached (image s) (image r) 0 x → (x < length s) × Reached (image_at s) (image_at r) 0 x
  walk here = (g.some, here)
  walk (by_σ {x} w) = let k = walk w in (g.points_S x k.0, rw (← s_at x k.0) (by_σ k.1))
  walk (by_ρ {x} w) =
      let k = walk w in
      let h : x < length r = rw g.even k.0 in
      (omega (arith, g.even, g.points_R x h), rw (← r_at x h) (by_ρ k.1))

  pub passport_pair : CosetPair s r
  passport_pair = record {
    transitive = record {
      some = g.some;
      as_many = g.even;
      permutes_S = passport_S s r g;
      permutes_R = passport_R s r g;
      reached = λ x h. (walk (g.reached x h)).1;
    };
    twice = λ x h. ap (image_at s) (s_at x h) ∙ s_at (image s x) (g.points_S x h) ∙ g.twice x h;
    thrice = λ x h.
        let k = g.points_R x h in
        ap (λ (y : ℕ). image_at r (image_at r y)) (r_at x h) ∙ ap (image_at r) (r_at (image r x) k)
        ∙ r_at (image r (image r x)) (g.points_R (image r x) k) ∙ g.thrice x h;
  }

pub thirds_needed : (s r : List ℕ) → Passport s r → 3 * (needed_vertices r - 1) + fixed_points r ≡ length r
thirds_needed s r g =
    let c = passport_pair g in
    let few = those_few (is_fixed r) (length r) in
    let n : length r - fixed_points r ≡ 3 * (cycle_number r - fixed_points r) = omega (arith, order_three (passport_R s r g) c.thrice) in
    let k : needed_vertices r - 1 ≡ cycle_number r - fixed_points r = rw n (omega arith) in
    omega (arith, k, n)
