-- `text::stretch_end` meets its contract: the stretch from `i` on ends where the one from `from` on does. Assumes
-- nothing.
use mathlib.Core.Path.{◌≡◌}
use Prim.Native.Nat.{◌+◌}
use lib.ListN.{drop}
use Rattle.text.specs.Inner.Inside.{stretch}
use Rattle.text.proofs.stretch_end.Given as goal

abbrev pub invariant-loop-i : goal.invariant-loop-i
invariant-loop-i l = l.from + stretch l.kind (drop l.from l.text) ≡ l.i + stretch l.kind (drop l.i l.text)
