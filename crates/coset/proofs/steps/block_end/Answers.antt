-- `block_end` reads where S and then a turn lead in the table of that turn (`table_is`): a real position is below `places v`, so its entry is one of those
-- that `StepsReady` tells of. Assumes nothing.
use native.Mathlib.Omega.{arith}
use mathlib.Core.Path.{◌∙◌, ap}
use Prim.Native.Nat.{ℕ, ◌+◌}
use lib.ListN.{get_or}
use Rattle.polygon.proofs.Flip.{real_in}
use Rattle.coset.proofs.Noted.{table_is, byte_most}
use borrow.Author.Rules.{rules}
use Rattle.coset.proofs.steps.block_end.Goals as goal

pub overflow_mul-table : goal.overflow_mul-table
overflow_mul-table c = omega (arith, byte_most c.args.inverse)

pub overflow_add-table : goal.overflow_add-table
overflow_add-table c = omega (arith, byte_most c.args.inverse)

pub overflow_add-table-2 : goal.overflow_add-table-2
overflow_add-table-2 c =
    let s = c in
    let low = real_in s.args.v s.args.t.now s.requires.0.tables.symbol s.args.p s.requires.1 in
    omega (arith, low, s.requires.0.tables.symbol.most, byte_most s.args.inverse)

pub offset_bounds-w-table : goal.offset_bounds-w-table
offset_bounds-w-table c =
    let s = c in
    let low = real_in s.args.v s.args.t.now s.requires.0.tables.symbol s.args.p s.requires.1 in
    omega (arith, low, s.requires.0.tables.symbol.most, byte_most s.args.inverse)

pub bounds-w-table : goal.bounds-w-table
bounds-w-table c =
    let s = c in
    let low = real_in s.args.v s.args.t.now s.requires.0.tables.symbol s.args.p s.requires.1 in
    omega (arith, low, s.requires.0.tables.symbol.most, s.requires.0.tables.long, byte_most s.args.inverse)

pub returns : goal.returns
returns c =
    let s = c in
    let low = real_in s.args.v s.args.t.now s.requires.0.tables.symbol s.args.p s.requires.1 in
    c.index.ensures ∙ ap (λ (i : ℕ). get_or s.args.w.now (i + s.args.p) 0) (table_is s.args.inverse)
    ∙ s.requires.0.blocks s.args.inverse s.args.p low s.requires.1
