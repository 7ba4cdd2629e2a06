-- THE THEOREMS of this crate, each stated here as a type; proofs/Theorem.antt has a proof of each, under the name in
-- brackets. C is any condition on matrices, s and r are tables of its n right cosets, and the equations are those of
-- specs/Equations.antt in any maps of points for which specs/Maps.antt asks.
--
--   PrimePasses p               the prime p passes, in some maps X of it
--   Necessary    [necessary]    of a congruence subgroup all equations hold, for each prime that divides a width, each
--                               unit and each two units: so one that fails says no
--   Sufficient   [sufficient]   where the base equations hold of each prime that divides a width, and those of one unit
--                               that generates, or of all, the subgroup is a congruence subgroup
-- Both together decide, by finitely many equations, whether any subgroup with coset tables is one. By Wohlfahrt's
-- theorem it then contains Γ(N), N the level.
use Rattle.std.specs.Prelude.{◌≡◌, true, List, ℕ}
use Rattle.matrix.specs.Matrix.{Mat}
use Rattle.right_cosets.specs.Cosets.{CosetsOf}
use Rattle.congruence.specs.Index.{is_prime}
use Rattle.wohlfahrt.specs.IsCongruence.{IsCongruence}
use Rattle.congruence_decision.specs.Equations.{BaseEquations, EveryUnit, UnitsPass}
use Rattle.congruence_decision.specs.Maps.{PointMaps, PrimeMaps, Divides}

pub record PrimePasses (n : ℕ) (s r : List ℕ) (point S B : ℕ → ℕ) (p : ℕ) : Type 0 where
  pub q : ℕ
  pub X : ℕ → ℕ → ℕ
  pub maps : PrimeMaps n s r point p q X
  pub base : BaseEquations n S X B
  pub units : UnitsPass n S X q

abbrev pub Necessary : Type 1
Necessary = (C : Mat → Type 0) (n : ℕ) (s r : List ℕ) → CosetsOf C n s r → (point S B : ℕ → ℕ)
    → PointMaps n s r point S B → IsCongruence C → (p q : ℕ) (X : ℕ → ℕ → ℕ) → PrimeMaps n s r point p q X
    → BaseEquations n S X B × EveryUnit n S X q

abbrev pub Sufficient : Type 1
Sufficient = (C : Mat → Type 0) (n : ℕ) (s r : List ℕ) → CosetsOf C n s r → (point S B : ℕ → ℕ)
    → PointMaps n s r point S B
    → ((p : ℕ) → is_prime p ≡ true → Divides n s r point p → PrimePasses n s r point S B p) → IsCongruence C
