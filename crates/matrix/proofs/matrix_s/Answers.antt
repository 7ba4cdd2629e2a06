-- `matrix_s` gives the rows 0 -1 and 1 0, which are those of S by its definition. Assumes nothing.
use mathlib.Core.Path.{refl}
use Rattle.matrix.specs.Matrix.{mat_s}
use Rattle.matrix.proofs.matrix_s.Goals as goal

pub returns : goal.returns
unfolding mat_s
returns c = refl
