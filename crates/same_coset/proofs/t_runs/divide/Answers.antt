-- `divide` computes what `DividesNearest` names: both quotients, both distances, and the choice between them. Assumes nothing.
use native.Mathlib.Nat.{mod-lt, div-le_self}
use native.Mathlib.Omega.{arith}
use Rattle.same_coset.proofs.t_runs.divide.Goals as goal

pub overflow_sub-missing : goal.overflow_sub-missing
overflow_sub-missing c = omega (arith, mod-lt c.args.a {m = c.args.c} c.requires.0)

pub overflow_add-below : goal.overflow_add-below
overflow_add-below c = omega (arith, c.requires.1, div-le_self c.args.a c.args.c)
