-- `check_order` searches from 0 up for a point that is moved. The loop's invariant, for each test that the closure tells: the
-- points below x stay. Assumes nothing.
use mathlib.Core.Path.{◌≡◌}
use mathlib.Core.Bool.{Bool}
use Prim.Native.Nat.{ℕ, ◌<◌}
use lib.ListN.{length}
use Rattle.basics.proofs.Count.{Clear}
use Rattle.permutations.proofs.entries.check_order.Given as goal

abbrev pub invariant-loop-x : goal.invariant-loop-x
invariant-loop-x g l =
    (moved : ℕ → Bool) → ((x : ℕ) (b : Bool) → x < length l.t → g.F.Fn.post l.is_moved (x, tt) b → b ≡ moved x) → Clear moved l.x
