use mathlib.Core.Path.{◌∙◌}
use borrow.Author.Tests.{le-ltb}
use Rattle.cycle_writing.proofs.Short.{start_low, start_test}
use Rattle.cycle_writing.proofs.start.is_start.Goals as goal

pub returns-then-x-a : goal.returns-then-x-a
returns-then-x-a c = let s = c.requires in
    start_test c.args.t.now s.0 c.args.x _ s.1 c.image-a.ensures c.if-x-a.true _ c.image.ensures

pub returns-else-x-a : goal.returns-else-x-a
returns-else-x-a c = let s = c.requires in
    le-ltb _ _ c.if-x-a.false ∙ start_low c.args.t.now s.0 c.args.x _ s.1 c.image-a.ensures c.if-x-a.false
