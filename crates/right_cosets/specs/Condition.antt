-- A condition on matrices of determinant 1, left open.
--
--   Unit m             the determinant of m is 1
--   C within m         m is a unit and meets the condition C
--   Condition C        what is asked of a condition: the identity meets it; with two matrices their product does, with
--                      a matrix its inverse and its negative. So the units that meet it are a subgroup, and it doesn't
--                      see the sign
--   Decides C test     the test says of each matrix whether it meets C
use Rattle.std.specs.Prelude.{◌≡◌, ◌↔◌, Bool, true, pos}
use Rattle.matrix.specs.Matrix.{Mat, ◌⊗◌, 𝟙, neg, adj, det}

abbrev pub Unit : Mat → Type 0
Unit m = det m ≡ pos 1

infix 4 ◌within◌
pub record ◌within◌ (C : Mat → Type 0) (m : Mat) : Type 0 where
  pub unit : Unit m
  pub meets : C m

pub record Condition (C : Mat → Type 0) : Type 0 where
  pub one : C 𝟙
  pub product : (m n : Mat) → C m → C n → C (m ⊗ n)
  pub inverse : (m : Mat) → C m → C (adj m)
  pub sign : (m : Mat) → C m → C (neg m)

abbrev pub Decides : (Mat → Type 0) → (Mat → Bool) → Type 0
Decides C test = (m : Mat) → (test m ≡ true) ↔ C m
