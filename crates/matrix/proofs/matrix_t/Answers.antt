-- `matrix_t` gives the rows 1 1 and 0 1, which are those of T by its definition. Assumes nothing.
use mathlib.Core.Path.{refl}
use Rattle.matrix.specs.Matrix.{mat_t}
use Rattle.matrix.proofs.matrix_t.Goals as goal

pub returns : goal.returns
unfolding mat_t
returns c = refl
