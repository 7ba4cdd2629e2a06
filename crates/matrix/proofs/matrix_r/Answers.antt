-- `matrix_r` gives the rows 0 -1 and 1 1: R is defined as S T, and this is that product multiplied out. Assumes nothing.
use mathlib.Core.Path.{refl}
use Rattle.matrix.specs.Matrix.{◌⊗◌, mat_s, mat_t, mat_r}
use Rattle.matrix.proofs.matrix_r.Goals as goal

pub returns : goal.returns
unfolding ◌⊗◌ mat_s mat_t mat_r
returns c = refl
