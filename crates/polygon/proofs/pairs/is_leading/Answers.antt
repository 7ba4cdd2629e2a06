-- `is_leading`: a free side leads where its partner lies to its right (`leads_free`). Assumes nothing.
use mathlib.Core.Path.{sym}
use Rattle.polygon.proofs.Partners.{leads_free}
use Rattle.polygon.proofs.pairs.is_leading.Goals as goal

pub returns-in-Free : goal.returns-in-Free
returns-in-Free c =
    leads_free c.args.v c.args.t.now c.args.w.now c.args.i _ c.partner_of.result c.requires.1 c.requires.2 (sym c.in-Free.ensures)
    c.partner_of.ensures
