use native.Mathlib.Omega.{arith}
use Rattle.figures.proofs.Scan.{scanning_start, scanning_turn, scanning_more, scanning_end}
use Rattle.figures.proofs.cusp_widths.Goals as goal

pub loop-i-init : goal.loop-i-init
loop-i-init c = scanning_start c.requires

pub list_cycle-counts-requires : goal.list_cycle-counts-requires
list_cycle-counts-requires c = scanning_turn c.loop-i.invariant (omega arith)

pub loop-i-preserved : goal.loop-i-preserved
loop-i-preserved c = scanning_more c.loop-i.invariant (omega arith) c.list_cycle-counts.ensures

pub returns : goal.returns
returns c = scanning_end c.loop-i.invariant (omega arith)
