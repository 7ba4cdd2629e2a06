-- The loop's invariant: n sides below i lead.
use mathlib.Core.Path.{◌≡◌}
use Rattle.basics.specs.Count.{count}
use Rattle.pairing.specs.Generator.{is_leader_in}
use Rattle.pairing.proofs.generator.count_leaders.Given as goal

abbrev pub invariant-loop-i : goal.invariant-loop-i
invariant-loop-i l = l.n ≡ count (is_leader_in l.v l.p) l.i
