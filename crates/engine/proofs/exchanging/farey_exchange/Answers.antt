-- `farey_exchange` meets its contract: it tells the number and the count of the answer of `exchange` (`call_made`), which say what `exchange_says` has.
-- Assumes nothing.
use mir.Facts.{to_z-of_z}
use Rattle.call.proofs.Laws.{call_made}
use Rattle.partner_exchange.proofs.Answered.{exchange_numbered, exchange_says}
use borrow.Author.Rules.{rules}
use lib.ListN.{length}
use Rattle.partner_exchange.specs.Exchange.{exchanged}
use Rattle.partner_exchange.specs.Answer.{exchange_check}
use Rattle.engine.proofs.Numbers.{result_numbered}
use Rattle.engine.proofs.Lent.{lent_to}
use Rattle.engine.proofs.exchanging.farey_exchange.Goals as goal

pub returns : goal.returns
returns c =
    let q = c.exchange in
    let s = c in
    let g = rw (to_z-of_z s.ranges.x, to_z-of_z s.ranges.y) at q.ensures in
    let says = exchange_says s.args.v s.args.t.now s.args.x s.args.y (lent_to s.args.out s.args.out.now) in
    call_made _ (result_numbered (exchange_check s.args.v s.args.t.now s.args.x s.args.y)
    (exchange_numbered s.args.v s.args.t.now s.args.x s.args.y)
    (length (exchanged s.args.v s.args.t.now s.args.x s.args.y)) s.args.out.now)
    says g c.of_filled-said.ensures.0 c.of_filled-said.ensures.1
