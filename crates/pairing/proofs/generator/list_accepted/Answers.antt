-- `list_accepted` clears the work space, so that no label has been met yet (`paired_none`), finds the partners, lists the generators and
-- clears again. Assumes nothing.
use lib.ListN.{length}
use Rattle.symbol.specs.Table.{pairing_entries}
use Rattle.symbol.proofs.Order.{behind}
use Rattle.pairing.proofs.Partners.{paired_none}
use Rattle.pairing.proofs.Rows.{symbol_paired}
use Rattle.pairing.proofs.generator.list_accepted.Goals as goal

pub pair_sides-requires : goal.pair_sides-requires
pair_sides-requires c =
    let v = c.args.v in
    let t = c.args.t.now in (
      c.requires.0.most,
      rw (behind v t) (symbol_paired v t c.requires.0),
      rw (behind v t, c.clear.ensures) (paired_none v (pairing_entries v t) (length c.args.w.now) c.requires.1),
    )
