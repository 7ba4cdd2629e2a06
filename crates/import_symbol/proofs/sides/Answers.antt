-- `sides` walks by the order that it is told (`by_wide`, `by_rule`). Assumes nothing.
use Rattle.import_symbol.proofs.Answers.{by_wide, by_rule}
use borrow.Author.Rules.{rules}
use Rattle.import_symbol.proofs.sides.Goals as goal

pub returns-then-wide : goal.returns-then-wide
returns-then-wide c =
    let k = c in
    by_wide _ _ _ _ _ _ k.if-wide.true k.walk.ensures

pub returns : goal.returns
returns c =
    let k = c in
    by_rule _ _ _ _ _ _ k.if-wide.false k.walk-2.ensures
