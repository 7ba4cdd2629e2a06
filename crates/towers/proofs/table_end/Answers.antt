-- `table_end` has three ways out: the last entry, one with too few numbers, one with enough. Assumes nothing.
use mathlib.Core.Path.{◌≡◌}
use native.Mathlib.Omega.{arith}
use Rattle.matrix.specs.Matrix.{nth}
use Rattle.matrix.proofs.Bounds.{kept}
use Rattle.towers.specs.Tower.{entry_vertices}
use Rattle.towers.proofs.Entries.{ends_last, ends_short, ends_inside}
use Rattle.towers.proofs.table_end.Goals.{After-or_zero-v}
use Rattle.towers.proofs.table_end.Goals as goal

pub returns-then-last : goal.returns-then-last
returns-then-last c = let s = c in rw c.if-last.true (ends_last s.args.l.now s.requires)

-- its v was read
read : (c : After-or_zero-v) → c.or_zero-v.result ≡ entry_vertices c.args.l.now
read c = rw (kept (nth c.args.l.now 1) c.or_zero-arg-1.given) at c.or_zero-v.ensures

pub returns-then-l-v : goal.returns-then-l-v
returns-then-l-v c =
    let s = c in
    rw c.if-last.false (ends_short s.args.l.now s.requires (omega (arith, c.if-l-v.true, read (goal.at.returns-then-l-v c).After-or_zero-v)))

pub returns : goal.returns
returns c =
    let s = c in
    rw c.if-last.false (ends_inside s.args.l.now c.or_zero-v.result (read (goal.at.returns c).After-or_zero-v) c.if-l-v.false)
