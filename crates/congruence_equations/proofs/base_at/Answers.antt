-- `base_at`: the three tests, one after the other. Assumes nothing.
use Rattle.congruence_equations.proofs.Landing.{refuted, base_last}
use borrow.Author.Rules.{rules}
use Rattle.congruence_equations.proofs.base_at.Goals as goal

pub returns-then-not-braids : goal.returns-then-not-braids
returns-then-not-braids c = refuted c.braids.ensures c.if-not-braids.true (λ p. p.0)

pub returns-then-not-fourths : goal.returns-then-not-fourths
returns-then-not-fourths c = refuted c.fourths.ensures c.if-not-fourths.true (λ p. p.1)

pub returns : goal.returns
returns c =
    let b = c.braids in
    let f = c.fourths in
    base_last b.ensures c.if-not-braids.false f.ensures c.if-not-fourths.false
    c.crosses.ensures
