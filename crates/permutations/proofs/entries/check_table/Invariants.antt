-- `check_table` finds the first bad entry. The loop's invariant: no entry below i is bad, and the marks tell which points those
-- entries are (`seen_more`); an entry that isn't bad is a point, so it has a mark. Assumes nothing.
use Rattle.basics.proofs.Count.{Clear}
use Rattle.permutations.specs.Check.{bad_entry}
use Rattle.permutations.specs.Inner.Seen.{SeenTo}
use Rattle.permutations.proofs.entries.check_table.Given as goal

abbrev pub invariant-loop-i : goal.invariant-loop-i
invariant-loop-i l = SeenTo l.t l.i l.seen × Clear (bad_entry l.t) l.i
