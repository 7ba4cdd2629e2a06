-- `steps_on_lem` is `steps_on`: the remainder, or what it leaves of the width. Assumes nothing.
use native.Mathlib.Nat.{mod-lt}
use native.Mathlib.Omega.{arith}
use Rattle.same_coset.proofs.t_runs.steps_on.Goals as goal

pub returns-then-onward : goal.returns-then-onward
returns-then-onward c = rw c.if-onward.true c.shortened-rest.ensures

pub overflow_sub-result : goal.overflow_sub-result
overflow_sub-result c =
    let s = c in
    omega (arith, c.shortened-rest.ensures, mod-lt s.args.q {m = s.args.d} s.requires.0)

pub returns : goal.returns
returns c = rw (c.if-onward.false, c.shortened-rest.ensures)
