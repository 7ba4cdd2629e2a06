-- `grow_small` writes the four numbers of a symbol of one vertex. Assumes nothing.
use mathlib.Core.Path.{refl}
use mir.Facts.{to_z-of_z}
use borrow.Author.Rules.{rules}
use Rattle.import_symbol.proofs.grow_small.Goals as goal

pub returns : goal.returns
returns c = let s = c in record { value = refl; out_after = rw (to_z-of_z s.ranges.x) at c.write_four.ensures }
