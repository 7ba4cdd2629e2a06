use native.Mathlib.Omega.{arith}
use Rattle.index_text.proofs.Entering.{entered_none, entered_more, entered_all}
use Rattle.index_text.proofs.put_entries.Goals as goal

pub loop-n-init : goal.loop-n-init
loop-n-init c = entered_none c.args.at c.args.out.now

pub loop-n-preserved : goal.loop-n-preserved
loop-n-preserved c =
    let e = c.put_entry-end.ensures in
    entered_more c.loop-n.invariant (omega arith) (omega arith) c.requires e.0 e.1

pub returns : goal.returns
returns c = entered_all c.loop-n.invariant (omega arith)
