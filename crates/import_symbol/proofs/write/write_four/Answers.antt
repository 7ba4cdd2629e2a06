-- `write_four` makes four stores, at 0 to 3: the numbers 0, 1, x, -3, and then what stood there (`four_stores`). Assumes nothing.
use mathlib.Core.Path.{◌≡◌, refl, sym, ◌∙◌, ap}
use Rattle.import_symbol.proofs.Answers.{four_stores}
use mir.Facts.{to_z-of_z}
use mathlib.Core.List.{List}
use lib.ListN.{set}
use lib.IntN.{ℤ, pos, negsuc}
use borrow.Author.Rules.{rules}
use Rattle.import_symbol.proofs.write.write_four.Goals as goal

pub returns : goal.returns
returns c =
    let s = c in
    c.store_entry-4.ensures ∙ ap (λ (l : List ℤ). set l 3 (negsuc 2))
    ((rw (to_z-of_z s.ranges.x) at c.store_entry-3.ensures)
    ∙ ap (λ (l : List ℤ). set l 2 s.args.x)
    (c.store_entry-2.ensures
    ∙ ap (λ (l : List ℤ). set l 1 (pos 1)) c.store_entry.ensures))
    ∙ four_stores s.args.out.now s.args.x s.requires
