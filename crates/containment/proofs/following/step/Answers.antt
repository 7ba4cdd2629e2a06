-- `step` reads the table of S at a position, which is below its length (`real_in`). Assumes nothing.
use borrow.Author.Rules.{rules}
use mathlib.Core.Path.{◌≡◌, ◌∙◌}
use native.Mathlib.Omega.{arith}
use Rattle.matrix.specs.Words.{S}
use Rattle.polygon.specs.Step.{step_s}
use Rattle.polygon.proofs.Flip.{real_in}
use Rattle.polygon.proofs.Polygon.{polygon}
use Rattle.containment.proofs.following.step.Goals as goal

pub offset_bounds-s-y : goal.offset_bounds-s-y
offset_bounds-s-y c =
    let s = c in
    omega (arith, s.requires.0.most, real_in s.args.v s.args.t.now s.requires.0 s.args.y s.requires.2)

pub bounds-s-y : goal.bounds-s-y
bounds-s-y c =
    let s = c in
    omega (arith, s.requires.0.most, s.requires.1.size, real_in s.args.v s.args.t.now s.requires.0 s.args.y s.requires.2)

pub returns : goal.returns
returns c =
    let s = c in
    let v = s.args.v in
    let t = s.args.t.now in
    let e : c.index.result ≡ step_s v t s.args.y = c.index.ensures ∙ s.requires.1.is s.args.y (real_in v t s.requires.0 s.args.y s.requires.2) in
    (e, rw e ((polygon v t s.requires.0).closed S s.args.y s.requires.2))
