-- The theorem at work on the commutator subgroup of PSL2(Z), of index 6: no elliptic points and one cusp, so that the genus is 1. Its cosets are the
-- numbers modulo 6, on which S adds 3 and R adds 2, in the order in which the listing's rule numbers them: 0 3 2 5 4 1.
-- Assumes nothing.
use mathlib.Core.Path.{◌≡◌, refl, sym, ap, ◌∙◌}
use mathlib.Core.Logic.{inl, inr}
use mathlib.Core.Bool.{Bool, true, not}
use mathlib.Core.List.{List, [], ◌∷◌}
use Prim.Native.Nat.{ℕ, ◌<◌}
use native.Mathlib.Omega.{arith}
use lib.Dec.{eqb, ltb}
use lib.ListN.{length}
use borrow.Author.Tests.{eqb-true, ltb-true}
use Rattle.basics.specs.Count.{count}
use Rattle.basics.proofs.Choice.{either, clash}
use Rattle.basics.proofs.Count.{none_count}
use Rattle.numbering.specs.Find.{find}
use Rattle.numbering.specs.Order.{add, order_to, up_to}
use Rattle.numbering.specs.Table.{image_at, ◌then_table◌, Permutes}
use Rattle.figures.specs.Cusps.{fixed_points, steps_to, width, iterates, none_below, cusps}
use Rattle.figures.specs.Genus.{CosetPair}
use Rattle.figures.proofs.Transitive.{numbered_transitive}
use Rattle.figures.proofs.Genus.{genus_formula}

abbrev s : List ℕ
s = 1 ∷ 0 ∷ 3 ∷ 2 ∷ 5 ∷ 4 ∷ []

abbrev r : List ℕ
r = 2 ∷ 3 ∷ 4 ∷ 5 ∷ 0 ∷ 1 ∷ []

-- a test that none of the points below n fails
passes : (test : ℕ → Bool) (n : ℕ) → count (λ (x : ℕ). not (test x)) n ≡ 0 → (x : ℕ) → x < n → test x ≡ true
passes test n e x h = elim (either (test x)) [
  | inl q ↦ q
  | inr q ↦ clash (ap not q) ((none_count (λ (y : ℕ). not (test y)) n e).none x h)
]

twice : (x : ℕ) → x < 6 → image_at s (image_at s x) ≡ x
twice x h = eqb-true (image_at s (image_at s x)) x (passes (λ (y : ℕ). eqb (image_at s (image_at s y)) y) 6 refl x h)

thrice : (x : ℕ) → x < 6 → image_at r (image_at r (image_at r x)) ≡ x
thrice x h = eqb-true (image_at r (image_at r (image_at r x))) x (passes (λ (y : ℕ). eqb (image_at r (image_at r (image_at r y))) y) 6 refl x h)

permutes_s : Permutes s
permutes_s = record {
  low = λ x h. ltb-true (image_at s x) 6 (passes (λ (y : ℕ). ltb (image_at s y) 6) 6 refl x h);
  one = λ x y h k e. sym (twice x h) ∙ ap (image_at s) e ∙ twice y k;
}

permutes_r : Permutes r
permutes_r = record {
  low = λ x h. ltb-true (image_at r x) 6 (passes (λ (y : ℕ). ltb (image_at r y) 6) 6 refl x h);
  one = λ x y h k e. sym (thrice x h) ∙ ap (λ (z : ℕ). image_at r (image_at r z)) e ∙ thrice y k;
}

commutator : CosetPair s r
unfolding find add order_to up_to
commutator = record {
  transitive = numbered_transitive (omega arith) refl refl permutes_s permutes_r refl;
  twice = twice;
  thrice = thrice;
}

no_elliptic_points : (fixed_points s ≡ 0) × (fixed_points r ≡ 0)
no_elliptic_points = (refl, refl)

one_cusp : length (cusps (s then_table r)) ≡ 1
unfolding ◌then_table◌ steps_to width iterates none_below
one_cusp = refl

genus_one : (genus_formula commutator).genus ≡ 1
genus_one = omega (arith, (genus_formula commutator).formula, no_elliptic_points.0, no_elliptic_points.1, one_cusp)
