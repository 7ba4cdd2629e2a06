-- `sum_from` takes one sum from a later one; the sums grow. Assumes nothing.
use mathlib.Core.Path.{refl}
use native.Mathlib.Omega.{arith}
use Rattle.walk_runs.proofs.rounds.sum_from.Goals as goal

pub overflow_sub-result : goal.overflow_sub-result
overflow_sub-result c =
    let s = c in
    omega (arith, s.requires.0.grow s.args.i s.args.j s.requires.1 s.requires.2, c.index-x.ensures, c.index-y.ensures)

pub returns : goal.returns
returns c =
    let s = c in
    let h = s.requires.0 in (
      rw (c.index-x.ensures, c.index-y.ensures) refl,
      omega (
        arith,
        h.low s.args.j
            s.requires.2,
        c.index-x.ensures,
        c.index-y.ensures,
      ),
    )
