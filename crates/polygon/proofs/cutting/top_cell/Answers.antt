-- `top_cell` reads the last of n cells, its vertex (`below_at`) and its handle (`handle_at`); an empty stack has -1/0 with the handle 0
-- (`below_none`, `handle_none`). Assumes nothing.
use mathlib.Core.Path.{sym, ◌∙◌}
use Rattle.polygon.proofs.Scanning.{below_at, below_none, handle_at, handle_none}
use Rattle.polygon.proofs.cutting.top_cell.Goals as goal

pub returns-then-n-eq0-clause-vertex : goal.returns-then-n-eq0-clause-vertex
returns-then-n-eq0-clause-vertex c = sym (below_none c.args.w.now c.args.n c.if-n-eq0.true)

pub returns-then-n-eq0-clause-handle : goal.returns-then-n-eq0-clause-handle
returns-then-n-eq0-clause-handle c = sym (handle_none c.args.w.now c.args.n c.if-n-eq0.true)

pub returns-clause-vertex : goal.returns-clause-vertex
returns-clause-vertex c = c.index.ensures ∙ sym (below_at c.args.w.now c.args.n c.if-n-eq0.false)

pub returns-clause-handle : goal.returns-clause-handle
returns-clause-handle c = c.index-2.ensures ∙ sym (handle_at c.args.w.now c.args.n c.if-n-eq0.false)
