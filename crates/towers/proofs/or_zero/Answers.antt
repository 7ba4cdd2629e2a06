-- `or_zero` tests whether x is below 1 (`low_zero`); else it is a natural number (`at_least_one`). Assumes nothing.
use mathlib.Core.Path.{sym, ap}
use mir.Facts.{to_z-of_z, Fits-nat_abs}
use Rattle.symbol.proofs.Signed.{AtLeastOne, at_least_one}
use Rattle.towers.specs.Tower.{or_zero}
use Rattle.towers.proofs.Entries.{low_zero}
use Rattle.towers.proofs.or_zero.Goals.{Else-x-lt1}
use Rattle.towers.proofs.or_zero.Goals as goal

pub returns-then-x-lt1 : goal.returns-then-x-lt1
returns-then-x-lt1 c = let s = c in sym (low_zero s.args.x (rw (to_z-of_z s.ranges.x) at c.if-x-lt1.true))

least : (c : Else-x-lt1) → AtLeastOne c.args.x
least c = let s = c in at_least_one s.args.x (rw (to_z-of_z s.ranges.x) at c.if-x-lt1.false)

pub overflow_cast-result : goal.overflow_cast-result
overflow_cast-result c = let f = c.ranges.x in rw (to_z-of_z f) ((least (goal.at.overflow_cast-result c).Else-x-lt1).natural, Fits-nat_abs tt f)

pub returns : goal.returns
returns c = rw (to_z-of_z c.ranges.x) (sym (ap or_zero (least (goal.at.returns c).Else-x-lt1).is))
