use mathlib.Core.Path.{◌≡◌, refl, ◌∙◌}
use native.Mathlib.Omega.{arith}
use Prim.Native.Nat.{◌+◌, ◌-◌, ◌*◌}
use lib.ListN.{length}
use Rattle.permutations.specs.Pair.{image}
use Rattle.import_rule.specs.Fixed.{by_q}
use Rattle.import_rule.specs.Inner.Placed.{start_placed}
use Rattle.import_sides.specs.Inner.Work.{halted, whole}
use Rattle.import_sides.proofs.State.{Between}
use Rattle.import_sides.proofs.Starting.{three, between_start}
use Rattle.import_sides.proofs.Whole.{turn_asks, turn_leaves, turn_stops, between_most, turn_less, row_of, all_ended, step_long}
use borrow.Author.Rules.{rules}
use Rattle.import_sides.proofs.queue.walk.Goals as goal

pub start-requires : goal.start-requires
start-requires c = let z = c.requires in (z.pair, z.long)

pub begin-requires : goal.begin-requires
begin-requires c =
    let t = c in
    let s = t in
    three s.args.s.now s.args.r.now s.args.w.now s.requires _ t.start.ensures

pub loop-h-init : goal.loop-h-init
loop-h-init c =
    let b = c in
    let s = b in
    let a = s in
    (between_start a.args.s.now a.args.r.now a.args.w.now a.requires _ s.start.ensures _ b.begin.ensures, refl)

pub overflow_add-h : goal.overflow_add-h
overflow_add-h c =
    let s = c in
    let m = between_most s.args.s.now s.args.r.now _ _ _ _ c.loop-h.invariant.0 in let a = m.0 in let b = m.1 in omega arith

pub overflow_mul-k : goal.overflow_mul-k
overflow_mul-k c =
    let s = c in
    let m = between_most s.args.s.now s.args.r.now _ _ _ _ c.loop-h.invariant.0 in let a = m.0 in let b = m.1 in omega arith

pub take_next_side-t-requires : goal.take_next_side-t-requires
take_next_side-t-requires c =
    let l = c in
    let s = l in
    turn_asks s.args.s.now s.args.r.now _ _ _ _ l.loop-h.invariant.0 (omega arith)

pub returns-then-t : goal.returns-then-t
returns-then-t c =
    let t = c in
    let l = t in
    let s = l in
    halted refl (turn_stops s.args.s.now s.args.r.now _ _ _ _ l.loop-h.invariant.0 (omega arith) _ _ _ t.take_next_side-t.ensures c.if-t.true)

pub overflow_add-h-in-loop-h : goal.overflow_add-h-in-loop-h
overflow_add-h-in-loop-h c =
    let l = c in
    let s = l in
    let m = between_most s.args.s.now s.args.r.now _ _ _ _ l.loop-h.invariant.0 in let a = m.0 in let b = m.1 in omega arith

pub loop-h-smaller : goal.loop-h-smaller
loop-h-smaller c =
    let t = c in
    let l = t in
    let s = l in
    let g = turn_leaves s.args.s.now s.args.r.now _ _ _ _ l.loop-h.invariant.0 (omega arith) _ _ _ t.take_next_side-t.ensures c.if-t.false in
    turn_less s.args.s.now s.args.r.now (start_placed (image s.args.s.now) (by_q (image s.args.s.now) (image s.args.r.now))) _ _ _ _ _ _
    t.take_next_side-t.ensures c.if-t.false (omega arith) (between_most s.args.s.now s.args.r.now _ _ _ _ g).0

pub loop-h-preserved : goal.loop-h-preserved
loop-h-preserved c =
    let t = c in
    let l = t in
    let s = l in (
      turn_leaves s.args.s.now s.args.r.now _ _ _ _ l.loop-h.invariant.0 (omega arith) _ _ _ t.take_next_side-t.ensures c.if-t.false,
      step_long
          s.args.s.now s.args.r.now _ _ _ _ l.loop-h.invariant.0 (omega arith) _ _ _ t.take_next_side-t.ensures ∙ l.loop-h.invariant.1,
    )

pub lay_out-requires : goal.lay_out-requires
lay_out-requires c =
    let l = c in
    let s = l in
    let g = l.loop-h.invariant.0 in
    (row_of s.args.s.now s.args.r.now _ _ _ _ g, (between_most s.args.s.now s.args.r.now _ _ _ _ g).0, g.state.long)

pub returns : goal.returns
returns c =
    let l = c in
    let a = l in
    let s = a in
    whole refl (all_ended s.args.s.now s.args.r.now _ _ _ _ a.loop-h.invariant.0 (omega arith) l.lay_out.ensures)
