-- `take_next_side` drops a closed side from the queue (`dropped`), and leaves an open one to `split_open` (`stepped_of`). Assumes nothing.
use mathlib.Core.Path.{refl, sym, ◌∙◌, ap}
use Rattle.permutations.specs.Pair.{image}
use Rattle.import_rule.specs.Fixed.{by_q}
use Rattle.import_sides.specs.Inner.Work.{closed_in}
use Rattle.import_sides.specs.Inner.Cells.{dropped}
use Rattle.import_sides.proofs.Turns.{first_point, held_some, cell_of, stepped_of}
use borrow.Author.Rules.{rules}
use Rattle.import_sides.proofs.queue.take_next_side.Goals as goal

pub is_closed-requires : goal.is_closed-requires
is_closed-requires c =
    let e = c in
    let s = e in
    let z = s.requires in (z.pair, first_point s.args.s.now s.args.r.now s.args.w.now s.args.h s.args.k _ z e.entry-m.ensures.0, z.long)

pub returns-then-is_closed : goal.returns-then-is_closed
returns-then-is_closed c =
    let i = c in
    let e = i in
    let a = e in
    let s = a.args in
    let sg = image s.s.now in
    let ka = by_q sg (image s.r.now) in
    dropped (ap (closed_in sg ka s.w.now) (sym e.entry-m.ensures.0) ∙ sym i.is_closed.ensures ∙ c.if-is_closed.true) refl refl refl

pub overflow_sub-x : goal.overflow_sub-x
overflow_sub-x c =
    let e = c in
    let i = e in
    let a = i in
    let b = a in
    let d = b in
    let s = d.args in
    held_some s.s.now s.r.now s.w.now s.h s.k _ d.requires b.entry-m.ensures.0 (sym a.is_closed.ensures ∙ i.if-is_closed.false) _
    e.entry-x.ensures.0

pub split_open-requires : goal.split_open-requires
split_open-requires c =
    let e = c in
    let i = e in
    let a = i in
    let b = a in
    let d = b in
    let s = d.args in
    cell_of s.s.now s.r.now s.w.now s.h s.k _ d.requires b.entry-m.ensures.0 (sym a.is_closed.ensures ∙ i.if-is_closed.false) _
    e.entry-x.ensures.0

pub returns : goal.returns
returns c =
    let a = c in
    let e = a in
    let i = e in
    let b = i in
    let d = b in
    let f = d in
    let s = f.args in
    stepped_of s.s.now s.r.now s.w.now s.h s.k _ f.requires d.entry-m.ensures.0 (sym b.is_closed.ensures ∙ i.if-is_closed.false) _
    e.entry-x.ensures.0 _ _ _ a.split_open.ensures
