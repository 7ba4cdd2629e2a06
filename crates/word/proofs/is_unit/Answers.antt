-- `is_unit` compares the determinant with 1; entries to 1,000,000 leave room for it (`roomy`). Assumes nothing.
use mathlib.Core.Path.{◌∙◌, ap}
use lib.Dec.{lit<}
use lib.IntN.{ℤ, pos}
use Rattle.matrix.specs.Matrix.{of_list}
use Rattle.matrix.proofs.Bounds.{roomy}
use Rattle.symbol.specs.Check.{eq_z}
use Rattle.symbol.proofs.Sides.{is_one}
use Rattle.word.proofs.is_unit.Goals as goal

pub determinant-requires : goal.determinant-requires
determinant-requires c =
    roomy 1000000 (of_list c.args.m) (lit< tt) c.requires

pub returns : goal.returns
returns c =
    is_one c.determinant.result (record { sfits = c.determinant.type_inv }) ∙ ap (λ (z : ℤ). eq_z z (pos 1)) c.determinant.ensures
