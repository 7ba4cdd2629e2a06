-- `symbol_by` meets its contract (`call_made`, `symbol_says`). Assumes nothing.
use Rattle.import_symbol.specs.Answer.{order_by}
use Rattle.call.proofs.Laws.{call_made}
use Rattle.named_groups.proofs.Answers.{symbol_says}
use borrow.Author.Rules.{rules}
use Rattle.congruence.specs.Cosets.{family_r}
use Rattle.import_call.specs.Import.{needed_length}
use Rattle.named_groups.specs.Answer.{named_rule}
use Rattle.named_groups.specs.Group.{group_check, family_of}
use Rattle.engine.proofs.Lent.{lent_to}
use Rattle.engine.proofs.Numbers.{symbol_numbered, above_group}
use Rattle.engine.proofs.named.symbol_by.Goals as goal

pub returns : goal.returns
returns c =
    let q = c.named_symbol_by in
    let s = c.args in
    let w = lent_to s.w q.new.w in
    let out = lent_to s.out q.new.out in
    let k = c.of_filled-said.ensures in
    call_made _ (symbol_numbered (group_check s.family s.n) (above_group s.family s.n) s.w.now
    (needed_length (family_r (family_of s.family) s.n)) (named_rule (order_by s.wide) s.family s.n) s.out.now)
    (symbol_says (order_by s.wide) s.family s.n w out q.ensures.leaves) q.ensures k.0 k.1
