-- `main` stays inside its arrays: what `answer_named` made ends within them. Assumes nothing.
use mathlib.Core.Path.{sym}
use native.Mathlib.Omega.{arith}
use lib.Seq.{length-take-le}
use Rattle.farey.proofs.main.Goals as goal

pub slice_bounds-out-end : goal.slice_bounds-out-end
slice_bounds-out-end c = omega (arith, c.answer_named-end.ensures.inside)

pub slice_bounds-write_whole-end : goal.slice_bounds-write_whole-end
slice_bounds-write_whole-end c =
    let made = c.answer_named-end in
    sym (length-take-le made.result made.new.out made.ensures.inside)
