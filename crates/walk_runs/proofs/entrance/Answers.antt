-- `entrance` is S p or p, and both are positions (`entered_by_S`, `entered_at`). Assumes nothing.
use Rattle.walk_runs.proofs.Tallying.{entered_by_S, entered_at}
use Rattle.walk_runs.proofs.entrance.Goals as goal

pub returns-then-inverse : goal.returns-then-inverse
returns-then-inverse c = let s = c in entered_by_S s.requires.0.tables.symbol c.if-inverse.true s.requires.1 c.next.ensures

pub returns : goal.returns
returns c = let s = c in entered_at s.requires.0.tables.symbol c.if-inverse.false s.requires.1
