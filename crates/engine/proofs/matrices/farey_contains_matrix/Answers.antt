-- `farey_contains_matrix` meets its contract: what its call promises, what the answer means (`member_means`) and what its numbers say (`member_says`).
-- Assumes nothing.
use mathlib.Core.Path.{refl}
use Rattle.call.proofs.Laws.{call_decided}
use Rattle.matrix_word.specs.Answer.{is_member}
use Rattle.matrix_word.proofs.Meaning.{member_numbered, member_means, member_tells, member_says}
use borrow.Author.Rules.{rules}
use Rattle.engine.proofs.matrices.farey_contains_matrix.Goals as goal

pub returns : goal.returns
returns c =
    let q = c.is_member in
    let s = c.args in
    let v = s.v in
    let t = s.t.now in
    let m = s.m.now in
    let told = member_tells v t m s.w.now in
    call_decided _ (member_numbered v t m s.w.now)
    (told.0, told.1, member_means v t m s.w.now, member_says v t m s.w.now) (is_member v t m) refl
    q.ensures
    c.of_decision-said.ensures.0 c.of_decision-said.ensures.1
