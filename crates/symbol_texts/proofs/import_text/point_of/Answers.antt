-- `point_of` meets its contract: what fits stays as it is. Assumes nothing.
use mathlib.Core.Path.{◌∙◌}
use mir.Facts.{to_z-of_z}
use Rattle.symbol_texts.proofs.ImportEntries.{point_is}
use Rattle.symbol_texts.proofs.import_text.point_of.Goals as goal

pub returns : goal.returns
returns c = c.unwrap_or.ensures
    ∙ point_is c.args.x c.try_from.result (rw (to_z-of_z c.ranges.x) at c.try_from.ensures)
