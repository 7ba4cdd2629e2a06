-- `check_entries` makes check 13, S before R, and hands on to 14 and 15. Why it may: where no entry is bad, each is a point of its table
-- (`entries_of`). Assumes nothing.
use mathlib.Core.Path.{sym, ◌∙◌}
use Rattle.permutations.proofs.Marks.{entries_of}
use Rattle.permutations.proofs.check_entries.Goals as goal

pub check_moves-requires : goal.check_moves-requires
check_moves-requires c = record {
  S = entries_of c.args.s.now c.requires.1 (sym c.in_ok-check_table.was ∙ c.check_table.ensures);
  R = entries_of c.args.r.now (rw c.requires.2 c.requires.1) (sym c.in_ok-check_table-2.was ∙ c.check_table-2.ensures);
  even = c.requires.2;
  some = c.requires.0;
}
