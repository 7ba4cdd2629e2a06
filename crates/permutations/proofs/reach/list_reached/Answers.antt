use native.Mathlib.Omega.{arith}
use native.Mathlib.Numerals.{add-one}
use Rattle.permutations.proofs.Queue.{run_start, run_more, run_end}
use Rattle.permutations.proofs.reach.list_reached.Goals as goal

pub loop-i-init : goal.loop-i-init
loop-i-init c = run_start c.args.s.now c.args.r.now c.requires

pub loop-i-preserved : goal.loop-i-preserved
loop-i-preserved c =
    rw add-one (run_more c.args.s.now c.args.r.now c.requires c.loop-i.i _ _ _ _ _ _ c.loop-i.invariant (omega arith) c.visit-n.ensures)

pub returns : goal.returns
returns c = run_end c.args.s.now c.args.r.now c.requires c.loop-i.i _ _ _ c.loop-i.invariant (omega arith)
