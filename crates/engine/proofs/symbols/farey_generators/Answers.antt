-- `farey_generators` meets its contract: it tells the number and the count of the answer of `generators` (`call_made`), which say what `generators_says`
-- has. Assumes nothing.
use Rattle.call.proofs.Laws.{call_made}
use Rattle.pairing.proofs.Admitted.{generators_says}
use borrow.Author.Rules.{rules}
use lib.ListN.{length}
use Rattle.pairing.specs.Generator.{generator_table}
use Rattle.engine.proofs.Numbers.{stored_numbered}
use Rattle.engine.proofs.Lent.{lent_to}
use Rattle.engine.proofs.symbols.farey_generators.Goals as goal

pub returns : goal.returns
returns c =
    let q = c.generators in
    let s = c in
    let w = lent_to s.args.w s.args.w.now in
    let out = lent_to s.args.out s.args.out.now in
    call_made _ (stored_numbered s.args.v s.args.t.now s.args.w.now (length (generator_table s.args.v s.args.t.now)) s.args.out.now)
    (generators_says s.args.v s.args.t.now w out) q.ensures c.of_filled-said.ensures.0 c.of_filled-said.ensures.1
