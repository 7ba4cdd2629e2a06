-- `zero_vertex`: the vertex that is found is the first (`first_hit`), and at the end there is none (`first_clear`). Assumes nothing.
use mathlib.Core.Path.{sym}
use native.Mathlib.Omega.{arith}
use Rattle.symbol.specs.Check.{is_zero}
use Rattle.basics.proofs.Count.{clear_less, first_hit, first_clear}
use Rattle.polygon.proofs.cutting.zero_vertex.Goals as goal

pub returns-then-is_zero : goal.returns-then-is_zero
returns-then-is_zero c =
    sym (first_hit (is_zero c.args.t.now) c.loop-i.i c.args.v (omega arith) c.loop-i.invariant (sym c.if-is_zero.ensures))

pub returns : goal.returns
returns c =
    let test = is_zero c.args.t.now in
    sym (first_clear test c.args.v (clear_less test c.args.v c.loop-i.i (omega arith) c.loop-i.invariant))
