-- `equal`: numbers of 64 bits with the same bits are the same (`bits_equal`). Assumes nothing.
use Rattle.partner_exchange.proofs.Copied.{bits_equal}
use Rattle.partner_exchange.proofs.equal.Goals as goal

pub returns : goal.returns
returns c = bits_equal c.args.x c.args.y c.ranges.x c.ranges.y
