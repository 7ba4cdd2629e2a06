-- THE THEOREMS of this crate, each stated here as a type; proofs/Theorem.antt has a proof of each, under the name in
-- brackets.
--
--   Wohlfahrt         [wohlfahrt]   a subgroup with coset tables s and r that contains some Γ(M) contains Γ(N), N the
--                                   level of the tables
--   NamedCongruence   [named]       Γ0(N), Γ1(N) and Γ(N) are congruence subgroups, for every N from 1 on
use Rattle.std.specs.Prelude.{List, ℕ, ◌<◌}
use Rattle.matrix.specs.Matrix.{Mat}
use Rattle.right_cosets.specs.Cosets.{CosetsOf}
use Rattle.congruence.specs.Congruence.{Meets}
use Rattle.congruence.specs.declared.Family.{Family}
use Rattle.wohlfahrt.specs.IsCongruence.{ContainsGamma, IsCongruence, table_level}

abbrev pub Wohlfahrt : Type 1
Wohlfahrt = (C : Mat → Type 0) (n : ℕ) (s r : List ℕ) → CosetsOf C n s r → IsCongruence C
    → ContainsGamma C (table_level s r)

abbrev pub NamedCongruence : Type 0
NamedCongruence = (f : Family) (n : ℕ) → 0 < n → IsCongruence (Meets f n)
