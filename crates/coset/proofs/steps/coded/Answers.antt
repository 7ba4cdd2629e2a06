-- `coded` adds 1024 to a letter of at most that size: the sum lies from 0 to 2048 (`coded_low`), and taking 1024 away gives the letter back
-- (`coded_back`). Assumes nothing.
use native.Mathlib.Omega.{arith}
use mathlib.Core.Path.{◌∙◌, ap}
use lib.IntN.{ℤ, pos, nat_abs, ◌-ℤ◌}
use Rattle.coset.proofs.Noted.{coded_fits, coded_is, coded_low, coded_back}
use Rattle.coset.proofs.steps.coded.Goals as goal

pub overflow_add-result : goal.overflow_add-result
overflow_add-result c =
    coded_fits c.ranges.letter c.requires

pub overflow_cast-result : goal.overflow_cast-result
overflow_cast-result c =
    let k = coded_low c.ranges.letter c.requires in
    rw (coded_is c.ranges.letter c.requires) (tt, record { fits = omega arith })

pub returns : goal.returns
returns c =
    let e = coded_is c.ranges.letter c.requires in
    let k = coded_low c.ranges.letter c.requires in
    (rw e k, ap (λ (z : ℤ). pos (nat_abs z) -ℤ pos 1024) e ∙ coded_back c.ranges.letter c.requires)
