-- `four_at` meets its contract: the four numbers are those of the list. Assumes nothing.
use mathlib.Core.Path.{refl}
use Prim.Native.Nat.{◌+◌}
use Rattle.matrix.specs.Matrix.{nth}
use Rattle.matrix.proofs.Bounds.{kept}
use Rattle.word.specs.Answer.{four}
use Rattle.word.proofs.four_at.Goals as goal

pub returns : goal.returns
unfolding four
returns c =
    let s = c in
    let ns = s.args.ns.now in
    let i = s.args.i in
    rw (
      kept (nth ns i) c.result-1.given,
      kept (nth ns (i + 1)) c.result-2-1.given,
      kept (nth ns (i + 2))
          c.result-3-1.given,
      kept (nth ns (i + 3)) c.result-4-1.given,
    ) refl
