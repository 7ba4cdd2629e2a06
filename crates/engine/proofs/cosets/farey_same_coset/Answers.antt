-- `farey_same_coset` meets its contract: what its call promises, what the answer means (`means`) and what its numbers say (`says`). Assumes nothing.
use mathlib.Core.Path.{refl}
use Rattle.matrix.specs.Matrix.{of_list}
use Rattle.call.proofs.Laws.{call_decided}
use Rattle.word.specs.Answer.{closes}
use Rattle.same_coset.proofs.Single.{means, tells, says}
use borrow.Author.Rules.{rules}
use Rattle.engine.proofs.Numbers.{matrices_numbered}
use Rattle.engine.proofs.cosets.farey_same_coset.Goals as goal

pub returns : goal.returns
returns c =
    let q = c.same_coset in
    let s = c.args in
    let v = s.v in
    let t = s.t.now in
    let a = s.a.now in
    let b = s.b.now in
    let told = tells v t a b s.w.now in
    call_decided _ (matrices_numbered v t s.w.now a b)
    (told.0, told.1, means v t a b s.w.now, says v t a b s.w.now) (closes v t (of_list a) (of_list b)) refl
    q.ensures
    c.of_decision-said.ensures.0 c.of_decision-said.ensures.1
