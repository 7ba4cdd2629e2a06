-- `answer_pairs` goes over the pairs. The loop's invariant: the first i are answered (`Going`). Assumes nothing.
use mathlib.Core.Path.{◌≡◌}
use lib.ListN.{length}
use Rattle.walk_runs.specs.Inner.Rounds.{Rounds}
use Rattle.sheets.proofs.Lines.{Going}
use Rattle.sheets.proofs.answer_pairs.Given as goal

abbrev pub invariant-loop-i : goal.invariant-loop-i
invariant-loop-i l =
    Going l.v l.t l.p l.w l.initial.lines l.initial.out l.i l.lines l.out l.next × (length l.lines ≡ length l.initial.lines) × (length l.out ≡ length l.initial.out) × Rounds l.v l.t l.r
