-- `check` refuses with 12 in three ways: no point, more than 3066, tables of unequal length; past them, `check_entries` has the answer
-- (`count_passed`). What it accepts is exactly the passports (`verdict`). Assumes nothing.
use mathlib.Core.Path.{◌∙◌}
use Prim.Native.Nat.{◌≤◌}
use lib.ListN.{length}
use borrow.Author.Rules.{rules}
use Rattle.permutations.proofs.Accepted.{verdict}
use Rattle.permutations.proofs.Answering.{count_passed}
use Rattle.permutations.proofs.check.Goals as goal

pub returns : goal.returns
returns c =
    let S = c.args.s.now in
    let R = c.args.r.now in
    let some : 1 ≤ length S = search rules in
    verdict S R _ (c.check_entries.ensures ∙ count_passed S R some c.if-s-gt3066.false c.if-r-s.false)
