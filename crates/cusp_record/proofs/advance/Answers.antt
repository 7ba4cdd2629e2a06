-- `advance` stays in a cusp until its end; there it reads the next width, and the next cusp begins (`advanced`). Assumes nothing.
use mathlib.Core.Path.{refl}
use native.Mathlib.Omega.{arith}
use Rattle.cusp_record.proofs.Fill.{cusp_fits, advanced}
use borrow.Author.Rules.{rules}
use Rattle.cusp_record.proofs.advance.Goals as goal

pub overflow_add-end : goal.overflow_add-end
overflow_add-end c = let g = c.requires in omega (arith, cusp_fits g.0 g.1 g.2)

pub returns-then-y-end : goal.returns-then-y-end
returns-then-y-end c =
    let e = c in
    let g = e.requires in
    advanced g.0 g.1 g.2 e.if-y-end.true refl refl c.index.ensures
