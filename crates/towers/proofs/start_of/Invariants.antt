-- `start_of` goes from entry to entry. The loop's invariant: entry i begins at p (`starts_on`). Assumes nothing.
use Rattle.towers.specs.Inner.Entries.{StartsAt}
use Rattle.towers.proofs.start_of.Given as goal

abbrev pub invariant-loop-i : goal.invariant-loop-i
invariant-loop-i l = StartsAt l.t l.i l.p
