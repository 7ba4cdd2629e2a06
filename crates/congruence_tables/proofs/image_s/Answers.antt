-- `congruence_tables::image_s` meets its contract, by the family: the entry of a point, a row with the first sign, or the product with S with the first sign.
-- Assumes nothing.
use borrow.Author.Rules.{rules}
use Rattle.congruence_tables.proofs.Images.{image_2}
use Rattle.matrix.specs.Matrix.{mat_s}
use Rattle.congruence_tables.proofs.Image.{point_of, row_of, residues_2, points_S, image_S, rows_S, row_S}
use Rattle.congruence_tables.proofs.image_s.Goals as goal

pub opposite-requires : goal.opposite-requires
opposite-requires c = let p = c.requires in (p.modulus, (point_of p c.in-Gamma0.is).c_low)

pub point-requires : goal.point-requires
point-requires c = points_S c.requires c.in-Gamma0.is c.opposite.ensures

pub opposite-requires-in-Gamma1 : goal.opposite-requires-in-Gamma1
opposite-requires-in-Gamma1 c = let p = c.requires in (p.modulus, (row_of p c.in-Gamma1.is).c_low)

pub signed_row-requires : goal.signed_row-requires
signed_row-requires c = rows_S c.requires c.in-Gamma1.is c.opposite-in-Gamma1.ensures

pub times_s-requires : goal.times_s-requires
times_s-requires c = let p = c.requires in (p.modulus, residues_2 p c.in-Gamma.is)

pub signed-requires : goal.signed-requires
signed-requires c = (c.requires.modulus, c.times_s.ensures.low)

pub returns-in-Gamma0 : goal.returns-in-Gamma0
returns-in-Gamma0 c = image_S c.requires c.in-Gamma0.is c.opposite.ensures
    c.point.ensures

pub returns-in-Gamma1 : goal.returns-in-Gamma1
returns-in-Gamma1 c = row_S c.requires c.in-Gamma1.is c.opposite-in-Gamma1.ensures
    c.signed_row.ensures

pub returns-in-Gamma : goal.returns-in-Gamma
returns-in-Gamma c =
    let s = c.args in
    let t = c.times_s in
    image_2 s.n mat_s s.x t.result c.signed.result t.ensures c.signed.ensures c.in-Gamma.is
