use mathlib.Core.Path.{◌∙◌, ap}
use native.Mathlib.Omega.{arith}
use lib.ListN.{length}
use Prim.Native.Nat.{◌-◌}
use Rattle.import_sides.proofs.Cells.{cell_length}
use Rattle.import_sides.proofs.Laying.{Laying, lay_start, lay_next, lay_on, lay_end}
use borrow.Author.Rules.{rules}
use Rattle.import_sides.proofs.queue.lay_out.Goals as goal

pub loop-i-init : goal.loop-i-init
loop-i-init c = lay_start c.args.w.now c.args.k c.requires.0

pub move_top-requires : goal.move_top-requires
move_top-requires c =
    let l = c in
    let s = l in
    let n = lay_next _ _ _ s.requires.1 s.requires.2 _ _ l.loop-i.invariant (omega arith) in
    let f = n.few in
    (omega arith, n.some, n.low, n.room)

pub overflow_sub-at : goal.overflow_sub-at
overflow_sub-at c =
    let l = c in
    let s = l in
    (lay_next _ _ _ s.requires.1 s.requires.2 _ _ l.loop-i.invariant (omega arith)).some

pub overflow_add-at : goal.overflow_add-at
overflow_add-at c =
    let l = c in
    let s = l in
    let n = (lay_next _ _ _ s.requires.1 s.requires.2 _ _ l.loop-i.invariant (omega arith)).low in omega arith

pub entry-at-requires : goal.entry-at-requires
entry-at-requires c =
    let m = c in
    let a = m in
    let s = a in
    let n = lay_next _ _ _ s.requires.1 s.requires.2 _ _ a.loop-i.invariant (omega arith) in
    let l = n.low in
    let r = n.room in
    let e = ap length m.move_top.ensures ∙ cell_length _ _ _ _ _ in
    omega arith

pub loop-i-preserved : goal.loop-i-preserved
loop-i-preserved c =
    let m = c in
    let l = m in
    let s = l in
    let n = lay_next _ _ _ s.requires.1 s.requires.2 _ _ l.loop-i.invariant (omega arith) in
    lay_on _ _ _ s.requires.1 s.requires.2 _ _ _ _ n m.move_top.ensures c.entry-at.ensures.0

pub returns : goal.returns
returns c = lay_end _ _ _ c.requires.1 c.requires.2 _ _ c.loop-i.invariant (omega arith)
