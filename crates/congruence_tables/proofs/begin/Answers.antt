-- `congruence_tables::begin` meets its contract: the identity's entry joins a list that has none.
-- Assumes nothing.
use borrow.Author.Rules.{rules}
use Rattle.congruence_tables.proofs.Walked.{begin_enters, begun_with}
use Rattle.congruence_tables.proofs.begin.Goals as goal

pub enter-requires : goal.enter-requires
enter-requires c =
    let one = c in
    let made = one in
    let none = made in
    let s = none in
    begin_enters s.requires.0 s.requires.1 none.begin.ensures made.prepare.ensures one.identity-x.ensures

pub returns : goal.returns
returns c =
    let entered = c in
    let one = entered in
    let made = one in
    let none = made in
    let s = none in
    begun_with s.requires.0 s.requires.1 none.begin.ensures made.prepare.ensures one.identity-x.ensures entered.enter.ensures
