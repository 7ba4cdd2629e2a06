use mathlib.Core.Path.{◌≡◌, sym, ap, ◌∙◌}
use native.Mathlib.Omega.{arith}
use Rattle.figures.specs.LevelOf.{gcd}
use Rattle.figures.proofs.LevelOf.{gcd_step, gcd_zero}
use Rattle.figures.proofs.gcd_of.Goals as goal

pub loop-y-preserved : goal.loop-y-preserved
loop-y-preserved c = sym (gcd_step c.loop-y.x c.loop-y.y (omega arith)) ∙ c.loop-y.invariant

pub returns : goal.returns
returns c =
    let z : c.loop-y.y ≡ 0 = omega arith in
    sym (gcd_zero c.loop-y.x) ∙ ap (gcd c.loop-y.x) (sym z) ∙ c.loop-y.invariant
