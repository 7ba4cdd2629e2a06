-- `image_below`, by whether q is a corner. Assumes nothing.
use borrow.Author.Rules.{rules}
use mathlib.Core.Path.{refl, ◌∙◌, ap}
use native.Mathlib.Omega.{arith}
use borrow.Author.Tests.{lt-ltb, le-ltb}
use Rattle.polygon.specs.Cut.{corners}
use Rattle.polygon.specs.Step.{step_s}
use Rattle.containment.proofs.following.image_below.Goals as goal

pub step-requires : goal.step-requires
step-requires c =
    let s = c in
    (s.requires.0, s.requires.1, rw c.index.ensures (s.requires.5 c.if-q-n.true))

pub returns-then-q-n : goal.returns-then-q-n
returns-then-q-n c =
    let s = c in
    rw (lt-ltb s.args.q (corners s.args.n) c.if-q-n.true)
    (c.step.ensures.0 ∙ ap (step_s s.args.v s.args.t.now) c.index.ensures)

pub returns : goal.returns
returns c =
    let s = c in
    rw (le-ltb s.args.q (corners s.args.n) (omega (arith, c.if-q-n.false))) refl
