-- The loop's invariant: the first i entries are accepted. Assumes nothing.
use Rattle.std.specs.Prelude.{Ok}
use mathlib.Core.Path.{◌≡◌}
use Rattle.towers.specs.Tower.{symbols_check}
use Rattle.towers.proofs.check_symbols.Given as goal

abbrev pub invariant-loop-i : goal.invariant-loop-i
invariant-loop-i l = symbols_check l.n l.t l.i ≡ Ok tt
