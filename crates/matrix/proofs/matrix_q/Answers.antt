-- `matrix_q` gives the rows 0 -1 and 1 -1, which are those of Q by its definition. Assumes nothing.
use mathlib.Core.Path.{refl}
use Rattle.matrix.specs.Matrix.{mat_q}
use Rattle.matrix.proofs.matrix_q.Goals as goal

pub returns : goal.returns
unfolding mat_q
returns c = refl
