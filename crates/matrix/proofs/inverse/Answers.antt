-- `inverse` gives the adjugate (d -b; -c a). Why -b and -c fit: neither b nor c is the least number of 64 bits (`minus_fits`).
-- Assumes nothing.
use mir.Facts.{to_z-of_z}
use Rattle.matrix.specs.Matrix.{nth, adj}
use Rattle.matrix.proofs.Bounds.{kept, minus, minus_fits}
use Rattle.matrix.proofs.inverse.Goals as goal

pub overflow_sub-result : goal.overflow_sub-result
overflow_sub-result c = let m = c.args.m in rw (kept (nth m 1) c.result-2-1.given) (minus_fits (nth m 1) c.requires.in_b)

pub overflow_sub-result-2 : goal.overflow_sub-result-2
overflow_sub-result-2 c =
    let m = c.args.m in
    rw (kept (nth m 2) c.result-3-1.given) (minus_fits (nth m 2) c.requires.in_c)

pub returns : goal.returns
unfolding adj
returns c =
    let s = c in
    let m = s.args.m in
    rw (
      kept (nth m 3) c.result-1.given,
      kept (nth m 1) c.result-2-1.given,
      kept (nth m 2) c.result-3-1.given,
      kept (nth m 0) c.result-4-1.given,
      to_z-of_z (minus_fits (nth m 1) s.requires.in_b),
      to_z-of_z (minus_fits (nth m 2) s.requires.in_c),
      minus (nth m 1),
      minus (nth m 2),
    )
