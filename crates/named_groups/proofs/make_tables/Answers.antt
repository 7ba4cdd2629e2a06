-- `named_groups::make_tables` meets its contract.
-- Assumes nothing.
use mathlib.Core.Path.{◌∙◌, ap}
use Rattle.call.specs.Space.{zeros}
use Rattle.named_groups.proofs.make_tables.Goals as goal

pub returns : goal.returns
returns c =
    let k = c in
    let b = k in
    record { fills = b.fill_tables-made.ensures; w_after = k.clear.ensures ∙ ap zeros b.fill_tables-made.auto.w }
