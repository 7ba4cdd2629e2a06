-- `farey_cusps` meets its contract: it tells the number and the count of the answer of `cusp_record::cusps` (`call_made`), which say what
-- `cusps_says` has. Assumes nothing.
use Rattle.call.proofs.Laws.{call_made}
use Rattle.cusp_record.proofs.Answer.{cusps_says}
use borrow.Author.Rules.{rules}
use lib.ListN.{length}
use Rattle.cusp_record.specs.Answer.{step_column, cusp_column}
use Rattle.engine.proofs.Numbers.{columns_numbered}
use Rattle.engine.proofs.tables.farey_cusps.Goals as goal

pub returns : goal.returns
returns c =
    let q = c.cusps in
    let s = c in
    call_made _ (columns_numbered s.args.v s.args.t.now s.args.w.now (length (cusp_column s.args.v s.args.t.now))
    (length (step_column s.args.v s.args.t.now)) s.args.cusps.now s.args.steps.now)
    (cusps_says s.args.v s.args.t.now _ _ _) q.ensures c.of_filled-said.ensures.0 c.of_filled-said.ensures.1
