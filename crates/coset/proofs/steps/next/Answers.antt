-- `next` reads where S leads: a real position is below `places v`, so its step is one of those that `StepsReady` tells of. Assumes nothing.
use native.Mathlib.Omega.{arith}
use mathlib.Core.Path.{◌∙◌}
use Rattle.polygon.proofs.Flip.{real_in}
use borrow.Author.Rules.{rules}
use Rattle.coset.proofs.steps.next.Goals as goal

pub overflow_add-p : goal.overflow_add-p
overflow_add-p c =
    let s = c in
    omega (arith, real_in s.args.v s.args.t.now s.requires.0.tables.symbol s.args.p s.requires.1, s.requires.0.tables.symbol.most)

pub offset_bounds-w-p : goal.offset_bounds-w-p
offset_bounds-w-p c =
    let s = c in
    omega (arith, real_in s.args.v s.args.t.now s.requires.0.tables.symbol s.args.p s.requires.1, s.requires.0.tables.symbol.most)

pub bounds-w-p : goal.bounds-w-p
bounds-w-p c =
    let s = c in
    omega (
      arith,
      real_in s.args.v s.args.t.now s.requires.0.tables.symbol s.args.p s.requires.1,
      s.requires.0.tables.symbol.most,
      s.requires.0.tables.long,
    )

pub returns : goal.returns
returns c =
    let s = c in
    c.index.ensures ∙ s.requires.0.steps s.args.p (real_in s.args.v s.args.t.now s.requires.0.tables.symbol s.args.p s.requires.1) s.requires.1
