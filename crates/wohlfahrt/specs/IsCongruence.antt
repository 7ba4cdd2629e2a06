-- CONGRUENCE SUBGROUPS. The matrices of determinant 1 that meet a condition C are a subgroup
-- (right_cosets/specs/Condition.antt). Γ(M) is `Gamma` of the crate congruence: the matrices that are the identity or
-- its negative modulo M.
--
--   ContainsGamma C M    every matrix of determinant 1 that is 1 or -1 modulo M meets C: the subgroup contains Γ(M)
--   IsCongruence C       THE NOTION: it contains Γ(M) for some M from 1 on
--   table_level s r      the level of tables of S and R: the least common multiple of the widths, which are the lengths
--                        of the cycles of T, S first and then R
use Rattle.std.specs.Prelude.{List, ℕ, ◌<◌}
use Rattle.matrix.specs.Matrix.{Mat}
use Rattle.numbering.specs.Table.{◌then_table◌}
use Rattle.figures.specs.Cusps.{widths}
use Rattle.figures.specs.LevelOf.{lcm_of}
use Rattle.right_cosets.specs.Condition.{Unit}
use Rattle.congruence.specs.Congruence.{Gamma}

abbrev pub ContainsGamma : (Mat → Type 0) → ℕ → Type 0
ContainsGamma C n = (m : Mat) → Unit m → Gamma n m → C m

pub record IsCongruence (C : Mat → Type 0) : Type 0 where
  pub modulus : ℕ
  pub some : 0 < modulus
  pub contains : ContainsGamma C modulus

abbrev pub table_level : (s r : List ℕ) → ℕ
table_level s r = lcm_of (widths (s then_table r))
