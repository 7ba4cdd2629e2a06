-- `walk_on` walks near, and on alone where more than S is left. Assumes nothing.
use mathlib.Core.Path.{sym, ◌∙◌}
use Rattle.walk_runs.proofs.Tallying.{ahead_more}
use Rattle.walk_runs.proofs.walk_on.Goals as goal

pub returns-then-is_proper : goal.returns-then-is_proper
returns-then-is_proper c = (ahead_more c.walk_near-near.ensures c.walk_alone.ensures.0, c.walk_alone.ensures.1)

pub returns : goal.returns
returns c = (c.walk_near-near.ensures, sym c.is_proper.ensures ∙ c.if-is_proper.false)
