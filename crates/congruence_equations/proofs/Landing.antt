-- The maps of the places are what the functions make, one after the other; and the equations at all places.
-- Assumes nothing.
use mathlib.Core.Path.{◌≡◌, refl, sym, ◌∙◌, ap, subst}
use mathlib.Core.List.{List}
use mathlib.Core.Bool.{Bool, true, false}
use Prim.Native.Nat.{ℕ, ◌+◌, ◌-◌, ◌*◌, ◌%◌, ◌≤◌, ◌<◌}
use native.Mathlib.Omega.{arith}
use native.Mathlib.Decide.{ℕ_discrete}
use lib.ListN.{get_or}
use lib.Dec.{eqb, ltb}
use borrow.Author.Tests.{eqb-true, eq-eqb, lt-ltb, le-ltb}
use Rattle.basics.proofs.Choice.{pick_true, pick_false}
use Rattle.numbering.proofs.Find.{true_false}
use Rattle.figures.specs.Inner.Scan.{held_t}
use Rattle.same_coset.specs.Inner.Places.{TURN, END, WIDTH, Prepared, run_place}
use Rattle.same_coset.proofs.Places.{run_low, slide_is}
use Rattle.congruence_decision.specs.Equations.{BaseEquations, UnitEquations, ProductEquations}
use Rattle.congruence_equations.specs.Inner.Places.{SHARES, turn_at, go_at, back_at, Lands, SaysOf, BaseAt, UnitAt, ProductAt}

-- ---- T^k

module _ {n : ℕ} {w : List ℕ} (g : Prepared n w) (y : ℕ) (h : y < n) (k : ℕ) where
  abbrev d : ℕ
  d = get_or w (WIDTH + y) 0

  abbrev end : ℕ
  end = get_or w (END + y) 0

  pub run_before : y + k % d < end → y + k % d ≡ run_place (held_t n w) true k y
  run_before l = sym (pick_true (ltb (y + k % d) end) (y + k % d) (y + k % d - d) (lt-ltb (y + k % d) end l)) ∙ slide_is g y h true k

  pub run_over : end ≤ y + k % d → y + k % d - d ≡ run_place (held_t n w) true k y
  run_over l = sym (pick_false (ltb (y + k % d) end) (y + k % d) (y + k % d - d) (le-ltb (y + k % d) end l)) ∙ slide_is g y h true k

-- ---- where the maps lead

pub lands_turn : {n : ℕ} {w : List ℕ} → Prepared n w → (y r : ℕ) → y < n → r ≡ get_or w (TURN + y) 0 → Lands n (turn_at w y) r
unfolding turn_at
lands_turn {n} {w} g y r h e = record { is = e; low = omega (arith, e, g.turn_low y h) }

pub lands_go : {n : ℕ} {w : List ℕ} → Prepared n w → (a y r : ℕ) → y < n → r ≡ run_place (held_t n w) true (a * get_or w (SHARES + y) 0) y
    → Lands n (go_at n w a y) r
unfolding go_at
lands_go {n} {w} g a y r h e = record { is = e; low = omega (arith, e, run_low g y h true (a * get_or w (SHARES + y) 0)) }

pub lands_back : {n : ℕ} {w : List ℕ} → Prepared n w → (y r : ℕ) → y < n → r ≡ run_place (held_t n w) true (get_or w (WIDTH + y) 0 - 1) y
    → Lands n (back_at n w y) r
unfolding back_at
lands_back {n} {w} g y r h e = record { is = e; low = omega (arith, e, run_low g y h true (get_or w (WIDTH + y) 0 - 1)) }

-- f and then g
pub lands_then : {n : ℕ} (f : ℕ → ℕ) {x z r : ℕ} → Lands n x z → Lands n (f z) r → Lands n (f x) r
lands_then f h k = record { is = k.is ∙ ap f h.is; low = k.low }

pub here : {n y : ℕ} → y < n → Lands n y y
here h = record { is = refl; low = h }

-- ---- tests

pub tells_eq : {n A B x y : ℕ} → Lands n A x → Lands n B y → SaysOf (A ≡ B) (eqb x y)
tells_eq {n} {A} {B} {x} {y} h k = record {
  yes = λ e. sym h.is ∙ eqb-true x y e ∙ k.is;
  no = λ e p. true_false (eq-eqb x y (h.is ∙ p ∙ sym k.is)) e;
}

-- what fails
pub refuted : {P Q : Type 0} {r : Bool} → SaysOf P r → r ≡ false → (Q → P) → SaysOf Q false
refuted d e f = record { yes = λ t. true_false t refl; no = λ t q. d.no e (f q) }

pub all_true : {P : Type 0} → P → SaysOf P true
all_true p = record { yes = λ t. p; no = λ t q. true_false refl t }

pub base_last : {r a b : Bool} {A B C : Type 0} → SaysOf A a → a ≡ true → SaysOf B b → b ≡ true → SaysOf C r → SaysOf (A × B × C) r
base_last s e t f k = record { yes = λ x. (s.yes e, t.yes f, k.yes x); no = λ x p. k.no x p.2 }

pub unit_last : {r a : Bool} {A B : Type 0} → SaysOf A a → a ≡ true → SaysOf B r → SaysOf (A × B) r
unit_last s e k = record { yes = λ x. (s.yes e, k.yes x); no = λ x p. k.no x p.1 }

-- ---- all places

module _ (n : ℕ) (w : List ℕ) where
  pub base_none : BaseEquations 0 (turn_at w) (go_at n w) (back_at n w)
  base_none = record {
    braid = λ y l. let no : ⊥ = omega arith in absurd no;
    fourth = λ y l. let no : ⊥ = omega arith in absurd no;
    crosses = λ y l. let no : ⊥ = omega arith in absurd no;
  }

  base_here : {k : ℕ} → BaseEquations k (turn_at w) (go_at n w) (back_at n w) → (y : ℕ) → y < k → BaseAt n w y
  base_here a y l = (a.braid y l, a.fourth y l, a.crosses y l)

  base_next : {k : ℕ} → BaseEquations k (turn_at w) (go_at n w) (back_at n w) → BaseAt n w k → (y : ℕ) → y < k + 1 → BaseAt n w y
  base_next {k} a p y l = elim (ℕ_discrete y k) [ yes e ↦ subst (λ (z : ℕ). BaseAt n w z) (sym e) p | no e ↦ base_here a y (omega arith) ]

  pub base_more : {k : ℕ} → BaseEquations k (turn_at w) (go_at n w) (back_at n w) → BaseAt n w k → BaseEquations (k + 1) (turn_at w) (go_at n w) (back_at n w)
  base_more a p = record { braid = λ y l. (base_next a p y l).0; fourth = λ y l. (base_next a p y l).1; crosses = λ y l. (base_next a p y l).2 }

  pub base_at_place : (k : ℕ) → k < n → BaseEquations n (turn_at w) (go_at n w) (back_at n w) → BaseAt n w k
  base_at_place k l a = base_here a k l

  pub base_end : {k : ℕ} → BaseEquations k (turn_at w) (go_at n w) (back_at n w) → k ≡ n → SaysOf (BaseEquations n (turn_at w) (go_at n w) (back_at n w)) true
  base_end a e = all_true (subst (λ (z : ℕ). BaseEquations z (turn_at w) (go_at n w) (back_at n w)) e a)

  module _ (q g h : ℕ) where
    pub unit_none : UnitEquations 0 (turn_at w) (go_at n w) q g h
    unit_none = record { turns = λ y l. let no : ⊥ = omega arith in absurd no; flips = λ y l. let no : ⊥ = omega arith in absurd no }

    unit_next : {k : ℕ} → UnitEquations k (turn_at w) (go_at n w) q g h → UnitAt n w q g h k → (y : ℕ) → y < k + 1 → UnitAt n w q g h y
    unit_next {k} a p y l = elim (ℕ_discrete y k) [
      | yes e ↦ subst (λ (z : ℕ). UnitAt n w q g h z) (sym e) p
      | no e ↦ (a.turns y (omega arith), a.flips y (omega arith))
    ]

    pub unit_more : {k : ℕ} → UnitEquations k (turn_at w) (go_at n w) q g h → UnitAt n w q g h k → UnitEquations (k + 1) (turn_at w) (go_at n w) q g h
    unit_more a p = record { turns = λ y l. (unit_next a p y l).0; flips = λ y l. (unit_next a p y l).1 }

    pub unit_at_place : (k : ℕ) → k < n → UnitEquations n (turn_at w) (go_at n w) q g h → UnitAt n w q g h k
    unit_at_place k l a = (a.turns k l, a.flips k l)

    pub unit_end : {k : ℕ} → UnitEquations k (turn_at w) (go_at n w) q g h → k ≡ n → SaysOf (UnitEquations n (turn_at w) (go_at n w) q g h) true
    unit_end a e = all_true (subst (λ (z : ℕ). UnitEquations z (turn_at w) (go_at n w) q g h) e a)

    module _ (g' h' : ℕ) where
      pub product_none : ProductEquations 0 (turn_at w) (go_at n w) q g h g' h'
      product_none y l = let no : ⊥ = omega arith in absurd no

      pub product_more : (k : ℕ) → ProductEquations k (turn_at w) (go_at n w) q g h g' h' → ProductAt n w q g h g' h' k
          → ProductEquations (k + 1) (turn_at w) (go_at n w) q g h g' h'
      product_more k a p y l = elim (ℕ_discrete y k) [
        | yes e ↦ subst (λ (z : ℕ). ProductAt n w q g h g' h' z) (sym e) p
        | no e ↦ a y (omega arith)
      ]

      pub product_end : (k : ℕ) → ProductEquations k (turn_at w) (go_at n w) q g h g' h' → k ≡ n → SaysOf
          (ProductEquations n (turn_at w) (go_at n w) q g h g' h') true
      product_end k a e = all_true (subst (λ (z : ℕ). ProductEquations z (turn_at w) (go_at n w) q g h g' h') e a)
