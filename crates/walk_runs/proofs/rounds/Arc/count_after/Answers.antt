-- `count_after` counts so many rounds, and the rest. Assumes nothing.
use mathlib.Core.Path.{refl}
use native.Mathlib.Omega.{arith}
use Rattle.walk_runs.proofs.rounds.Arc.count_after.Goals as goal

pub overflow_mul-result : goal.overflow_mul-result
overflow_mul-result c =
    let h = c.requires in
    let e = c.sum_from-round.ensures.0 in
    rw e (omega (arith, h.4))

pub overflow_add-result : goal.overflow_add-result
overflow_add-result c =
    let h = c.requires in
    let e = c.sum_from-round.ensures.0 in
    rw e (omega (arith, h.4, c.count_between-more.ensures.1))

pub returns : goal.returns
returns c = rw (c.sum_from-round.ensures.0, c.count_between-more.ensures.0) refl
