-- `grow_large` walks in a cleared space (`ground`). The walk stops at a side that can't be split, 16; or all d sides are done, and their
-- table of 3 (d - 1) + 1 numbers, which fits, is written (`large_over`, `large_room`, `large_made`). Assumes nothing.
use native.Mathlib.Omega.{arith}
use Rattle.import_symbol.proofs.Answers.{ground, whole_of, large_over, large_room, large_made}
use Rattle.import_symbol.specs.Answer.{order_by}
use borrow.Author.Rules.{rules}
use Rattle.import_symbol.proofs.grow_large.Goals as goal

pub sides-t-requires : goal.sides-t-requires
sides-t-requires c =
    let s = c in
    let z = s.requires in
    ground s.args.s.now s.args.r.now s.args.w.now _ z.0 z.1 c.clear.ensures z.2

pub returns-then-t : goal.returns-then-t
returns-then-t c =
    let a = c in
    let s = a in
    let k = large_over (order_by s.args.wide) s.args.s.now s.args.r.now _ _ _ s.args.out.now a.sides-t.ensures c.if-t.true in
    record { value = k.0; out_after = k.1 }

pub write_table-requires : goal.write_table-requires
write_table-requires c =
    let i = c in
    let a = i in
    let s = a in
    let S = s.args.s.now in
    let R = s.args.r.now in
    let g = whole_of (order_by s.args.wide) S R _ _ _ a.sides-t.ensures i.if-t.false in
    (g.done, large_room (order_by s.args.wide) S R _ _ _ g s.requires.3)

pub overflow_sub-v : goal.overflow_sub-v
overflow_sub-v c =
    let i = c in
    let a = i in
    let s = a in
    let S = s.args.s.now in
    let R = s.args.r.now in
    let g = whole_of (order_by s.args.wide) S R _ _ _ a.sides-t.ensures i.if-t.false in
    let so = g.done.some in
    let mo = g.done.most in
    omega arith

pub returns : goal.returns
returns c =
    let w = c in
    let i = w in
    let a = i in
    let s = a in
    let S = s.args.s.now in
    let R = s.args.r.now in
    let g = whole_of (order_by s.args.wide) S R _ _ _ a.sides-t.ensures i.if-t.false in
    let k = large_made (order_by s.args.wide) S R _ _ s.args.out.now _ g w.write_table.ensures in
    record { value = k.0; out_after = k.1 }
