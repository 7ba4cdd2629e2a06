-- `text::line::put_each` meets its contract: after as many turns the first numbers stand. Assumes nothing.
use mathlib.Core.List.{map}
use Prim.Native.Nat.{◌+◌}
use Rattle.text.proofs.Spacing.{Spaced}
use Rattle.text.proofs.line.put_each.Given as goal

abbrev pub invariant-loop-x : goal.invariant-loop-x
invariant-loop-x g l =
    Spaced (g.T.Decimal.most + 1) (map g.T.Decimal.value l.xs) l.at l.x-index l.end l.initial.out l.out
