-- `kind` carries over the kind of side i, which went through 64 bits. Assumes nothing.
use Rattle.matrix.proofs.Bounds.{kept}
use Rattle.drawing.specs.Quotient.{float_of}
use Rattle.drawing.proofs.kind.Goals as goal

pub returns : goal.returns
unfolding float_of
returns c = let k = c in rw (kept k.kind_at.result k.kind_at.type_inv, k.kind_at.ensures)
