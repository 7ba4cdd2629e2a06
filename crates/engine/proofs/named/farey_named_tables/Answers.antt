-- `farey_named_tables` meets its contract (`call_made`, `tables_say`). Assumes nothing.
use Rattle.call.proofs.Laws.{call_made}
use Rattle.named_groups.proofs.Answers.{tables_say}
use borrow.Author.Rules.{rules}
use lib.ListN.{length}
use Rattle.congruence.specs.Cosets.{family_r, family_s}
use Rattle.named_groups.specs.Group.{group_check, family_of}
use Rattle.engine.proofs.Numbers.{pair_numbered, above_group}
use Rattle.engine.proofs.named.farey_named_tables.Goals as goal

pub returns : goal.returns
returns c =
    let q = c.named_tables in
    let s = c.args in
    let k = c.of_filled-said.ensures in
    call_made _ (pair_numbered (group_check s.family s.n) (above_group s.family s.n) s.w.now
    (length (family_s (family_of s.family) s.n)) (length (family_r (family_of s.family) s.n)) s.s.now s.r.now)
    (tables_say s.family s.n s.w.now s.s.now s.r.now) q.ensures k.0 k.1
