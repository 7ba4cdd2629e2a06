-- `numbering::enter` meets its contract: the arms of the test are those of `add`.
-- Assumes nothing.
use mathlib.Core.Path.{sym, ◌∙◌}
use borrow.Author.Tests.{ltb-true, ltb-false}
use Rattle.numbering.proofs.Listing.{enter_old, enter_new}
use Rattle.numbering.proofs.enter.Goals as goal

pub returns-then-has : goal.returns-then-has
returns-then-has c =
    let pre = c.requires in
    let args = c.args in
    let has = c.has in
    enter_old pre.sparse args.x (ltb-true _ _ (sym has.ensures ∙ c.if-has.true))

pub returns : goal.returns
returns c =
    let pre = c.requires in
    let args = c.args in
    let has = c.has in
    let if1 = c.if-has in
    let push = c.push in
    enter_new pre.sparse args.x (ltb-false _ _ (sym has.ensures ∙ if1.false)) push.ensures
