-- `same_accepted`: the same index, and then containment (`same_index`, `other_index`). Assumes nothing.
use borrow.Author.Rules.{rules}
use mathlib.Core.Path.{refl, ◌∙◌}
use Rattle.containment.proofs.Tracked.{same_index, other_index}
use Rattle.containment.proofs.inclusion.same_accepted.Goals as goal

pub returns-then-k-m : goal.returns-then-k-m
returns-then-k-m c =
    let a2 = c in
    let a4 = c in
    let s = a4 in (
      other_index s.args.v s.args.t.now s.args.n s.args.u.now s.requires.0 s.requires.1 _ _ a2.index_of-k.ensures
          c.index_of-m.ensures
          c.if-k-m.true,
      refl,
    )

pub returns : goal.returns
returns c =
    let a2 = c in
    let a4 = c in
    let a5 = c in
    let a6 = c in
    let s = c in
    let d = a2.contains_accepted.ensures in (
      d.0 ∙ same_index s.args.v s.args.t.now s.args.n s.args.u.now s.requires.0 s.requires.1 _ _ a6.index_of-k.ensures
          a5.index_of-m.ensures
          a4.if-k-m.false,
      d.1,
    )
