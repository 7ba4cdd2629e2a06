-- `unit_at`: the two tests, one after the other. Assumes nothing.
use Rattle.congruence_equations.proofs.Landing.{refuted, unit_last}
use borrow.Author.Rules.{rules}
use Rattle.congruence_equations.proofs.unit_at.Goals as goal

pub returns-then-not-turns : goal.returns-then-not-turns
returns-then-not-turns c = refuted c.turns.ensures c.if-not-turns.true (λ p. p.0)

pub returns : goal.returns
returns c =
    let t = c.turns in
    unit_last t.ensures c.if-not-turns.false c.flips.ensures
