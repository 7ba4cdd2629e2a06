-- The loop's invariant: every name below i is listed before its entry. Assumes nothing.
use Rattle.basics.proofs.Count.{Clear}
use Rattle.towers.specs.Tower.{unlisted}
use Rattle.towers.proofs.first_unlisted.Given as goal

abbrev pub invariant-loop-i : goal.invariant-loop-i
invariant-loop-i l = Clear (unlisted l.t) l.i
