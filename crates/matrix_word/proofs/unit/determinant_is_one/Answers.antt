-- `determinant_is_one` reads the entries row by row, and computes in 128 bits (`determinant_fits`, `one_by`). Assumes nothing.
use mathlib.Core.Path.{◌≡◌, ◌∙◌}
use Rattle.matrix.specs.Matrix.{nth, det}
use Rattle.matrix.proofs.Bounds.{kept}
use Rattle.matrix_word.proofs.Determinant.{determinant_fits, one_by}
use Rattle.matrix_word.proofs.unit.determinant_is_one.Goals as goal

pub overflow_sub-result : goal.overflow_sub-result
overflow_sub-result c =
    let m = c.args.m in
    let a : c.from-a.result ≡ nth m 0 = c.from-a.ensures ∙ kept (nth m 0) c.from-arg-1.given in
    let d : c.from-d.result ≡ nth m 3 = c.from-d.ensures ∙ kept (nth m 3) c.from-arg-4-1.given in
    let b : c.from-b.result ≡ nth m 1 = c.from-b.ensures ∙ kept (nth m 1) c.from-arg-2-1.given in
    let g : c.from-c.result ≡ nth m 2 = c.from-c.ensures ∙ kept (nth m 2) c.from-arg-3-1.given in
    determinant_fits (nth m 0) (nth m 3) (nth m 1) (nth m 2) c.from-a.result c.from-d.result c.from-b.result c.from-c.result
    c.requires.in_a c.requires.in_d c.requires.in_b c.requires.in_c a d b g

pub returns : goal.returns
unfolding det
returns c =
    let m = c.args.m in
    let a : c.from-a.result ≡ nth m 0 = c.from-a.ensures ∙ kept (nth m 0) c.from-arg-1.given in
    let d : c.from-d.result ≡ nth m 3 = c.from-d.ensures ∙ kept (nth m 3) c.from-arg-4-1.given in
    let b : c.from-b.result ≡ nth m 1 = c.from-b.ensures ∙ kept (nth m 1) c.from-arg-2-1.given in
    let g : c.from-c.result ≡ nth m 2 = c.from-c.ensures ∙ kept (nth m 2) c.from-arg-3-1.given in
    one_by (nth m 0) (nth m 3) (nth m 1) (nth m 2) c.from-a.result c.from-d.result c.from-b.result c.from-c.result
    c.requires.in_a c.requires.in_d c.requires.in_b c.requires.in_c a d b g
