use mathlib.Core.Path.{sym, ◌∙◌}
use native.Mathlib.Omega.{arith}
use Rattle.walk_runs.proofs.Tallying.{one_proper, ahead_none, ahead_more}
use Rattle.walk_runs.proofs.walk_near.Goals as goal

pub loop-k-init : goal.loop-k-init
loop-k-init c = ahead_none c.requires.1

pub is_proper-requires : goal.is_proper-requires
is_proper-requires c = omega (arith, c.loop-k.invariant.sound.few)

pub next_run-k-requires : goal.next_run-k-requires
next_run-k-requires c = one_proper c.loop-k.invariant.sound (sym c.is_proper.ensures ∙ c.loop-k-test.true)

pub overflow_mul-v : goal.overflow_mul-v
overflow_mul-v c = omega (arith, c.requires.0.tables.symbol.most)

pub returns-then-v-k : goal.returns-then-v-k
returns-then-v-k c = c.loop-k.invariant

pub stride-now-requires : goal.stride-now-requires
stride-now-requires c =
    (c.requires.0, c.loop-k.invariant.sound, c.next_run-k.ensures)

pub loop-k-smaller : goal.loop-k-smaller
loop-k-smaller c = c.stride-now.ensures.1

pub loop-k-preserved : goal.loop-k-preserved
loop-k-preserved c = ahead_more c.loop-k.invariant c.stride-now.ensures.0

pub returns : goal.returns
returns c = c.loop-k.invariant
