use Prim.Native.Nat.{◌+◌, ◌-◌}
use native.Mathlib.Omega.{arith}
use Rattle.prime_units.proofs.Marks.{Clearing, clearing_start, clearing_more, clearing_end}
use borrow.Author.Rules.{rules}
use Rattle.prime_units.proofs.units.clear_marks.Goals as goal

pub loop-j-init : goal.loop-j-init
loop-j-init c = clearing_start c.requires.1 c.requires.2

pub loop-j-preserved : goal.loop-j-preserved
loop-j-preserved c = clearing_more c.loop-j.invariant (omega arith)

pub returns : goal.returns
returns c = record { unmarked = clearing_end c.loop-j.invariant (omega arith); changed_within = c.loop-j.invariant.frame }
