-- `with_sign` is `signed`, by the same test; -x fits, since x is within the limit. Assumes nothing.
use native.Mathlib.Omega.{arith}
use mir.Facts.{to_z-of_z}
use Rattle.matrix.proofs.Bounds.{minus, minus_fits}
use Rattle.same_coset.proofs.t_runs.with_sign.Goals as goal

pub returns-then-plus : goal.returns-then-plus
returns-then-plus c = rw c.if-plus.true (to_z-of_z c.ranges.x)

pub overflow_sub-result : goal.overflow_sub-result
overflow_sub-result c = let s = c in rw (to_z-of_z s.ranges.x) (minus_fits s.args.x (omega (arith, s.requires)))

pub returns : goal.returns
returns c =
    let s = c in
    let x = s.args.x in
    rw (c.if-plus.false, to_z-of_z s.ranges.x, to_z-of_z (minus_fits x (omega (arith, s.requires)))) (minus x)
