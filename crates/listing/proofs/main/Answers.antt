-- `main` stays inside its arrays: what `list` made ends within them. Assumes nothing.
use mathlib.Core.Path.{sym}
use native.Mathlib.Omega.{arith}
use lib.Seq.{length-take-le}
use Rattle.text.proofs.InputText.{answer_within}
use borrow.Author.Rules.{rules}
use Rattle.listing.proofs.main.Goals as goal

pub slice_bounds-out-end : goal.slice_bounds-out-end
slice_bounds-out-end c = omega (arith, answer_within c.list-end.ensures)

pub slice_bounds-write_whole-end : goal.slice_bounds-write_whole-end
slice_bounds-write_whole-end c =
    let made = c.list-end in
    sym (length-take-le made.result made.new.out (answer_within made.ensures))
