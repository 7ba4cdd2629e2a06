-- `walk` follows the word of m. The loop's invariant, `Going`: what was written, and then what is left to write from the present position,
-- is the whole walk. The sum of the entries that are left falls with each turn, so it ends. Assumes nothing.
use mathlib.Core.Path.{◌≡◌}
use lib.ListN.{length}
use Rattle.matrix.specs.Euclid.{total}
use Rattle.walk.specs.Inner.Way.{form_of, Going}
use Rattle.walk.proofs.walk.Given as goal

abbrev pub invariant-loop-out : goal.invariant-loop-out
invariant-loop-out l = Going l.v l.t l.start l.limit l.initial.way l.initial.out l.way l.out × (length l.out ≡ length l.initial.out)

abbrev pub decreases-loop-out : goal.decreases-loop-out
decreases-loop-out l = total (form_of l.way)
