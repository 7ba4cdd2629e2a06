-- `main` stays inside its array: what `constant_lines` made ends within it. Assumes nothing.
use mathlib.Core.Path.{sym}
use native.Mathlib.Omega.{arith}
use lib.Seq.{length-take-le}
use borrow.Author.Rules.{rules}
use Rattle.index_table.proofs.main.Goals as goal

pub slice_bounds-write_whole-end : goal.slice_bounds-write_whole-end
slice_bounds-write_whole-end c =
    let l = c.constant_lines-end in
    sym (length-take-le l.result l.new.out (omega (arith, l.ensures.inside)))
