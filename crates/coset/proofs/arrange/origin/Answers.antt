-- `origin` is the position of the coset H: where the walk starts, or its S image where the walk starts on the edge from infinity to 0.
-- Assumes nothing.
use mathlib.Core.Path.{◌≡◌, sym, ◌∙◌}
use mathlib.Core.Bool.{true, false}
use Rattle.polygon.specs.Step.{start_of}
use Rattle.polygon.proofs.Polygon.{polygon}
use Rattle.coset.proofs.Work.{origin_turned, origin_start}
use borrow.Author.Rules.{rules}
use Rattle.coset.proofs.arrange.origin.Goals as goal

pub step_s-requires : goal.step_s-requires
step_s-requires c =
    let s = c in
    (s.requires.0, rw s.requires.1 (polygon s.args.v s.args.t.now s.requires.0.symbol).start)

pub returns-then-is_turned : goal.returns-then-is_turned
returns-then-is_turned c =
    let a = c in
    let s = a in
    c.step_s.ensures ∙ origin_turned s.args.v s.args.t.now s.args.start s.requires.1 (sym a.is_turned.ensures ∙ c.if-is_turned.true)

pub returns : goal.returns
returns c =
    let a = c in
    let s = a in
    s.requires.1 ∙ origin_start s.args.v s.args.t.now (sym a.is_turned.ensures ∙ c.if-is_turned.false)
