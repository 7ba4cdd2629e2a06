-- `hold` writes three marks, one after the other; points are below 4096, so they stay inside their table. Assumes nothing.
use native.Mathlib.Omega.{arith}
use lib.ListN.{length-set}
use borrow.Author.Rules.{rules}
use Rattle.import_sides.proofs.walk.hold.Goals as goal

pub bounds-w-a : goal.bounds-w-a
bounds-w-a c = simp length-set (omega arith)

pub bounds-w-b : goal.bounds-w-b
bounds-w-b c = simp length-set (omega arith)
