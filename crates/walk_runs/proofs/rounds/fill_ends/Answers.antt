-- The ends at the places from a to y are entered (`filled_none`, `filled_more`). Assumes nothing.
use native.Mathlib.Omega.{arith}
use Rattle.walk_runs.proofs.Counts.{filled_none, filled_more, filled_end}
use Rattle.walk_runs.proofs.rounds.fill_ends.Goals as goal

pub loop-y-init : goal.loop-y-init
loop-y-init c = filled_none c.args.a c.args.n c.args.r.now

pub bounds-r-y : goal.bounds-r-y
bounds-r-y c = omega (arith, c.loop-y.invariant.long, c.requires.0, c.requires.2, c.loop-y-test.true)

pub loop-y-preserved : goal.loop-y-preserved
loop-y-preserved c =
    let i = c.loop-y.invariant in
    filled_more c.args.a c.args.n _ (omega (arith, c.loop-y.auto.y)) (omega (arith, i.long, c.requires.0, c.requires.2, c.loop-y-test.true)) i

pub returns : goal.returns
returns c = filled_end c.loop-y-test.false (omega (arith, c.loop-y.auto.y-end, c.requires.1)) c.loop-y.invariant
