-- `Side::neighbours` is the neighbour rule: c b - a d is the determinant of the frame (c a; d b), which is compared with 1 (`gap_det`).
-- Assumes nothing.
use mathlib.Core.Path.{sym, ◌∙◌, ap}
use mathlib.Core.List.{List}
use lib.IntN.{ℤ, pos}
use Rattle.matrix.specs.Matrix.{of_list, det}
use Rattle.symbol.specs.Check.{eq_z}
use Rattle.symbol.proofs.Sides.{gap_det, side_roomy, is_one}
use Rattle.symbol.proofs.Side.neighbours.Goals as goal

pub determinant-requires : goal.determinant-requires
determinant-requires c = let s = c in rw c.frame-m.ensures (side_roomy s.args.self s.requires)

pub returns : goal.returns
returns c =
    let s = c in
    let e = c.determinant.ensures ∙ ap (λ (m : List ℤ). det (of_list m)) c.frame-m.ensures ∙ sym (gap_det s.args.self) in
    is_one c.determinant.result (record { sfits = c.determinant.type_inv }) ∙ ap (λ (x : ℤ). eq_z x (pos 1)) e
