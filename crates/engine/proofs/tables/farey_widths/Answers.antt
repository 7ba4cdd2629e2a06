-- `farey_widths` meets its contract: it tells the number and the count of the answer of `coset::widths` (`call_made`), which say what
-- `widths_says` has. Assumes nothing.
use Rattle.call.proofs.Laws.{call_made}
use Rattle.coset.proofs.Answer.{widths_says}
use borrow.Author.Rules.{rules}
use lib.ListN.{length}
use Rattle.coset.specs.Answer.{widths_of}
use Rattle.engine.proofs.Numbers.{stored_numbered}
use Rattle.engine.proofs.tables.farey_widths.Goals as goal

pub returns : goal.returns
returns c =
    let q = c.widths in
    let s = c in
    call_made _ (stored_numbered s.args.v s.args.t.now s.args.w.now (length (widths_of s.args.v s.args.t.now)) s.args.out.now)
    (widths_says s.args.v s.args.t.now _ _) q.ensures c.of_filled-said.ensures.0 c.of_filled-said.ensures.1
