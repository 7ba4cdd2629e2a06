-- `move_top` copies the five numbers of the first side to do behind the sides done; the contracts of the reads and the write, put together,
-- say exactly that. Assumes nothing.
use mathlib.Core.Path.{◌≡◌, refl, sym, ◌∙◌, ap}
use borrow.Author.Rules.{rules}
use Rattle.import_sides.proofs.walk.move_top.Goals as goal

pub returns : goal.returns
returns c = c.put_cell.ensures
    ∙ cc (
      c.number_at-e.ensures.0,
      c.number_at-c.ensures.0,
      c.point_at-m.ensures.0,
    )
