-- `put_number` splits x below 2³² into x / 65536 and x % 65536, which both fit 16 bits. Assumes nothing.
use native.Mathlib.Omega.{arith}
use lib.ListN.{length-set}
use borrow.Author.Rules.{rules}
use Rattle.import_sides.proofs.cell.put_number.Goals as goal

pub bounds-w-at-2 : goal.bounds-w-at-2
bounds-w-at-2 c = simp length-set (omega arith)
