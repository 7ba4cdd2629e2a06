-- `shortened` divides only where the run isn't shorter than the width: a smaller number is its own remainder. Assumes nothing.
use mathlib.Core.Path.{sym}
use native.Mathlib.Nat.{mod-eq_of_lt}
use native.Mathlib.Omega.{arith}
use Rattle.same_coset.proofs.t_runs.shortened.Goals as goal

pub returns : goal.returns
returns c = sym (mod-eq_of_lt (omega (arith, c.if-d-n.false)))
