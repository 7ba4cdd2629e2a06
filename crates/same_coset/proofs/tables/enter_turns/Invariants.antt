-- `enter_turns` looks up S for each place. The loop's invariant is `Turning`. Assumes nothing.
use Rattle.figures.specs.Inner.Scan.{held_t}
use Rattle.same_coset.specs.Inner.Places.{held_s}
use Rattle.same_coset.proofs.ByPlace.{Turning}
use Rattle.same_coset.proofs.tables.enter_turns.Given as goal

abbrev pub invariant-loop-y : goal.invariant-loop-y
invariant-loop-y l = Turning (held_s l.n l.initial.w) (held_t l.n l.initial.w) l.n l.initial.w l.w l.y
