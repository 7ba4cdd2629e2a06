-- `identity` gives the rows 1 0 and 0 1, which are those of the identity by its definition. Assumes nothing.
use mathlib.Core.Path.{refl}
use Rattle.matrix.specs.Matrix.{𝟙}
use Rattle.matrix.proofs.identity.Goals as goal

pub returns : goal.returns
unfolding 𝟙
returns c = refl
