use mathlib.Core.Path.{sym, ◌∙◌}
use native.Mathlib.Omega.{arith}
use Rattle.walk_runs.proofs.Tallying.{one_proper, ahead_none, ahead_more}
use Rattle.walk_runs.proofs.walk_far.Goals as goal

pub loop-k-init : goal.loop-k-init
loop-k-init c = (ahead_none c.requires.2, c.requires.1)

pub is_proper-requires : goal.is_proper-requires
is_proper-requires c = omega (arith, c.loop-k.invariant.0.sound.few)

pub next_run-k-requires : goal.next_run-k-requires
next_run-k-requires c = one_proper c.loop-k.invariant.0.sound (sym c.is_proper.ensures ∙ c.loop-k-test.true)

pub leap-now-requires : goal.leap-now-requires
leap-now-requires c = (
  c.requires.0,
  c.loop-k.invariant.1,
  c.loop-k.invariant.0.sound,
  c.next_run-k.ensures,
)

pub loop-k-smaller : goal.loop-k-smaller
loop-k-smaller c = c.leap-now.ensures.1

pub loop-k-preserved : goal.loop-k-preserved
loop-k-preserved c = (
  ahead_more c.loop-k.invariant.0
      c.leap-now.ensures.0,
  c.leap-now.ensures.2,
)

pub shape_of-r : goal.shape_of-r
shape_of-r c = c.loop-k.invariant.1.listed.long ∙ sym c.requires.1.listed.long

pub returns : goal.returns
returns c = (c.loop-k.invariant.0, sym c.is_proper.ensures ∙ c.loop-k-test.false, c.loop-k.invariant.1)
