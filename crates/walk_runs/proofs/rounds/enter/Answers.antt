-- `enter` makes four stores, in four tables (`entered_by`). Assumes nothing.
use native.Mathlib.Omega.{arith}
use lib.ListN.{length-set}
use Rattle.walk_runs.proofs.Counts.{entered_by}
use Rattle.walk_runs.proofs.rounds.enter.Goals as goal

pub bounds-r-n : goal.bounds-r-n
bounds-r-n c = simp length-set (omega (arith, c.requires))

pub bounds-r-n-2 : goal.bounds-r-n-2
bounds-r-n-2 c = simp length-set (omega (arith, c.requires))

pub bounds-r-next : goal.bounds-r-next
bounds-r-next c = simp length-set (omega (arith, c.requires))

pub returns : goal.returns
returns c = let a = c.args in entered_by a.r.now a.x a.n a.a a.s c.requires.0 c.requires.1 c.requires.2
