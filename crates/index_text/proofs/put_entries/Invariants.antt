-- `index_text::put_entries` meets its contract: before the turn of n the lines from 1 to n - 1 stand. Assumes nothing.
use Prim.Native.Nat.{◌-◌}
use Rattle.index_text.proofs.Entering.{Entered}
use Rattle.index_text.proofs.put_entries.Given as goal

abbrev pub invariant-loop-n : goal.invariant-loop-n
invariant-loop-n l = Entered l.at (l.n - 1) l.end l.initial.out l.out
