-- `lacks`: divisible, or marked. Assumes nothing.
use native.Mathlib.Nat.{dvd_of_mod-eq-zero}
use Rattle.prime_units.proofs.Marks.{some_mark}
use borrow.Author.Rules.{rules}
use Rattle.prime_units.proofs.units.lacks.Goals as goal

pub returns-then-u-p-eq0 : goal.returns-then-u-p-eq0
returns-then-u-p-eq0 c = λ e nd. absurd (nd (dvd_of_mod-eq-zero _ c.if-u-p-eq0.true))

pub returns : goal.returns
returns c = λ e nd. some_mark _ e
