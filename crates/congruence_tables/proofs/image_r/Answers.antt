-- `congruence_tables::image_r` meets its contract, by the family: the entry of a point, a row with the first sign, or the product with R with the first sign.
-- Assumes nothing.
use borrow.Author.Rules.{rules}
use Rattle.congruence_tables.proofs.Images.{image_2}
use Rattle.matrix.specs.Matrix.{mat_r}
use Rattle.congruence_tables.proofs.Image.{point_of, row_of, residues_2, points_R, image_R, rows_R, row_R}
use Rattle.congruence_tables.proofs.image_r.Goals as goal

pub difference-requires : goal.difference-requires
difference-requires c =
    let p = c.requires in
    let o = point_of p c.in-Gamma0.is in
    (p.modulus, o.c_low, o.d_low)

pub point-requires : goal.point-requires
point-requires c = points_R c.requires c.in-Gamma0.is c.difference.ensures

pub difference-requires-in-Gamma1 : goal.difference-requires-in-Gamma1
difference-requires-in-Gamma1 c =
    let p = c.requires in
    let o = row_of p c.in-Gamma1.is in
    (p.modulus, o.c_low, o.d_low)

pub signed_row-requires : goal.signed_row-requires
signed_row-requires c = rows_R c.requires c.in-Gamma1.is c.difference-in-Gamma1.ensures

pub times_r-requires : goal.times_r-requires
times_r-requires c = let p = c.requires in (p.modulus, residues_2 p c.in-Gamma.is)

pub signed-requires : goal.signed-requires
signed-requires c = (c.requires.modulus, c.times_r.ensures.low)

pub returns-in-Gamma0 : goal.returns-in-Gamma0
returns-in-Gamma0 c = image_R c.requires c.in-Gamma0.is c.difference.ensures
    c.point.ensures

pub returns-in-Gamma1 : goal.returns-in-Gamma1
returns-in-Gamma1 c = row_R c.requires c.in-Gamma1.is c.difference-in-Gamma1.ensures
    c.signed_row.ensures

pub returns-in-Gamma : goal.returns-in-Gamma
returns-in-Gamma c =
    let s = c.args in
    let t = c.times_r in
    image_2 s.n mat_r s.x t.result c.signed.result t.ensures c.signed.ensures c.in-Gamma.is
