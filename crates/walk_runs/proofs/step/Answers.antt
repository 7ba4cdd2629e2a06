-- `step` is `step_by` in either direction. Assumes nothing.
use Rattle.walk_runs.proofs.step.Goals as goal

pub returns-then-inverse : goal.returns-then-inverse
returns-then-inverse c = rw c.if-inverse.true c.step_by.ensures

pub returns : goal.returns
returns c = rw c.if-inverse.false c.step_by-2.ensures
