-- EQUATIONS BETWEEN MAPS OF POINTS, for one prime p. A product is read from left to right. S is the map of S, B that of
-- T⁻¹; q is a power of p; and X a is T^(a e), where e is 1 modulo the power of p that divides the width of the point's
-- cusp, and 0 modulo the rest of the width. So X has the period q.
--
--   weyl S X                 W = X 1 S X 1 S X 1: (0 1; -1 0)
--   diagonal S X q g h       D = S X (1 - h) S X 1 S X (1 - g) S X (-h): (g 0; 0 h), where g h is 1 modulo q
--   beside S X B             S X 1 T⁻¹ S: L^(1 - e), L being (1 0; 1 1)
--   BaseEquations n S X B    for the points below n:
--     braid                    S W = W S
--     fourth                   W W W W = 1
--     crosses                  X 1 commutes with L^(1 - e)
--   UnitEquations .. g h     for the points below n, and D of g and h:
--     turns                    D X 1 = X (g g) D
--     flips                    D W D = W
--   ProductEquations .. g h g' h'     D of g and h, and then D of g' and h', is D of g g' and h h'
--   OneUnit n S X q          the unit equations hold of one pair that generates the units
--   EveryUnit n S X q        they hold of every pair, and the product equations of every two
--   UnitsPass n S X q        one or the other
use Rattle.std.specs.Prelude.{◌≡◌, ◌⊎◌, ℕ, ◌+◌, ◌-◌, ◌*◌, ◌%◌, ◌<◌}
use Rattle.congruence_decision.specs.Units.{UnitPair, Generating}

module _ (S : ℕ → ℕ) (X : ℕ → ℕ → ℕ) where
  abbrev pub weyl : ℕ → ℕ
  weyl y = X 1 (S (X 1 (S (X 1 y))))

  abbrev pub diagonal : (q g h : ℕ) → ℕ → ℕ
  diagonal q g h y = X (q - h) (S (X (q + 1 - g) (S (X 1 (S (X (q + 1 - h) (S y)))))))

  abbrev pub beside : (ℕ → ℕ) → ℕ → ℕ
  beside B y = S (B (X 1 (S y)))

pub record BaseEquations (n : ℕ) (S : ℕ → ℕ) (X : ℕ → ℕ → ℕ) (B : ℕ → ℕ) : Type 0 where
  pub braid : (y : ℕ) → y < n → weyl S X (S y) ≡ S (weyl S X y)
  pub fourth : (y : ℕ) → y < n → weyl S X (weyl S X (weyl S X (weyl S X y))) ≡ y
  pub crosses : (y : ℕ) → y < n → X 1 (beside S X B y) ≡ beside S X B (X 1 y)

pub record UnitEquations (n : ℕ) (S : ℕ → ℕ) (X : ℕ → ℕ → ℕ) (q g h : ℕ) : Type 0 where
  pub turns : (y : ℕ) → y < n → X 1 (diagonal S X q g h y) ≡ diagonal S X q g h (X (g * g % q) y)
  pub flips : (y : ℕ) → y < n → diagonal S X q g h (weyl S X (diagonal S X q g h y)) ≡ weyl S X y

abbrev pub ProductEquations : (n : ℕ) (S : ℕ → ℕ) (X : ℕ → ℕ → ℕ) (q g h g' h' : ℕ) → Type 0
ProductEquations n S X q g h g' h' = (y : ℕ) → y < n
    → diagonal S X q g' h' (diagonal S X q g h y) ≡ diagonal S X q (g * g' % q) (h * h' % q) y

pub record OneUnit (n : ℕ) (S : ℕ → ℕ) (X : ℕ → ℕ → ℕ) (q : ℕ) : Type 0 where
  pub g : ℕ
  pub h : ℕ
  pub generating : Generating q g h
  pub equations : UnitEquations n S X q g h

pub record EveryUnit (n : ℕ) (S : ℕ → ℕ) (X : ℕ → ℕ → ℕ) (q : ℕ) : Type 0 where
  pub equations : (g h : ℕ) → UnitPair q g h → UnitEquations n S X q g h
  pub products : (g h g' h' : ℕ) → UnitPair q g h → UnitPair q g' h' → ProductEquations n S X q g h g' h'

abbrev pub UnitsPass : (n : ℕ) (S : ℕ → ℕ) (X : ℕ → ℕ → ℕ) → ℕ → Type 0
UnitsPass n S X q = OneUnit n S X q ⊎ EveryUnit n S X q
