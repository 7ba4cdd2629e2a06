-- `congruence_tables::enter` meets its contract: its row is laid beside the list, and its pair joins the pairs.
-- Assumes nothing.
use borrow.Author.Rules.{rules}
use Rattle.congruence_tables.proofs.Entries.{pair_enters, pair_entered}
use Rattle.congruence_tables.proofs.enter.Goals as goal

pub enter-requires : goal.enter-requires
enter-requires c =
    let at = c in
    let laid = at in
    pair_enters laid.requires laid.lay.ensures at.multiplier.ensures c.first.ensures c.second.ensures

pub returns : goal.returns
returns c =
    let entered = c in
    let two = entered in
    let one = two in
    let at = one in
    let laid = at in
    pair_entered laid.requires laid.lay.ensures at.multiplier.ensures one.first.ensures two.second.ensures
    entered.enter.ensures
