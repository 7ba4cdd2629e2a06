-- `put_cell` writes two numbers and the point, five places in all; each write keeps the length, so that the next has room. Assumes nothing.
use Prim.Native.Nat.{◌+◌}
use mathlib.Core.Path.{◌∙◌}
use native.Mathlib.Omega.{arith}
use Rattle.import_sides.proofs.Cells.{cell_set_lem, put_length}
use lib.ListN.{length-set}
use borrow.Author.Rules.{rules}
use Rattle.import_sides.proofs.cell.put_cell.Goals as goal

pub shape_of-w : goal.shape_of-w
shape_of-w c =
    let s = c in
    let y = c.put_number.new.w in
    let x = c.put_number-2.new.w in
    length-set x (s.args.at + 4) s.args.m ∙ put_length y x (s.args.at + 2) s.args.d c.put_number-2.ensures
    ∙ put_length s.args.w.now y s.args.at s.args.e c.put_number.ensures

pub returns : goal.returns
returns c =
    let s = c in
    cell_set_lem s.args.w.now _ _ s.args.at s.args.e s.args.d s.args.m c.put_number.ensures
    c.put_number-2.ensures
