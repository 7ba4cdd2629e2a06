-- `answer_pairs` goes over the pairs. The loop's invariant: the first i are answered (`PairsShared`). Assumes nothing.
use mathlib.Core.Path.{◌≡◌}
use lib.ListN.{length}
use Rattle.same_coset.specs.Inner.Ready.{PairsShared}
use Rattle.same_coset.proofs.pairs.answer_pairs.Given as goal

abbrev pub invariant-loop-i : goal.invariant-loop-i
invariant-loop-i l = PairsShared l.n l.w l.p l.i l.initial.lines l.lines × (length l.lines ≡ length l.initial.lines)
