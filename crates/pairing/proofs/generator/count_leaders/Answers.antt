use native.Mathlib.Omega.{arith}
use Rattle.pairing.specs.Generator.{is_leader_in}
use Rattle.basics.proofs.Count.{count_le}
use Rattle.pairing.proofs.generator.count_leaders.Goals as goal

pub overflow_add-n : goal.overflow_add-n
overflow_add-n c = omega (arith, c.loop-i.invariant, count_le (is_leader_in c.args.v c.args.p.now) c.loop-i.i, c.requires.0)
