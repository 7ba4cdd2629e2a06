use Rattle.import_sides.proofs.Turn.{start_length}
use Rattle.import_sides.proofs.Begin.{walk_start, walk_whole}
use mathlib.Core.Path.{◌≡◌, refl, sym, ◌∙◌, ap}
use native.Mathlib.Omega.{arith}
use Rattle.import_sides.proofs.Walking.{Walking, walk_size, walk_top, walk_turn, walk_stop, walk_less, turned_length}
use Rattle.import_rule.specs.Inner.Placed.{start_placed}
use Rattle.import_sides.specs.Inner.Work.{halted, whole}
use Rattle.permutations.specs.Pair.{image}
use Rattle.import_rule.specs.Fixed.{by_q}
use Prim.Native.Nat.{◌+◌, ◌-◌, ◌*◌}
use lib.ListN.{length}
use borrow.Author.Rules.{rules}
use Rattle.import_sides.proofs.walk.walk.Goals as goal

pub start-requires : goal.start-requires
start-requires c = let z = c.requires in (z.pair, z.long)

pub loop-k-init : goal.loop-k-init
loop-k-init c =
    let s = c in
    let S = s.args.s.now in
    let R = s.args.r.now in
    let st = start_placed (image S) (by_q (image S) (image R)) in
    (walk_start S R s.args.w.now s.requires _ c.start.ensures, refl)

pub take_side-t-requires : goal.take_side-t-requires
take_side-t-requires c =
    let s = c in
    let S = s.args.s.now in
    let R = s.args.r.now in
    let st = start_placed (image S) (by_q (image S) (image R)) in
    let l = c.loop-k in
    walk_top S R st l.w l.d l.k l.invariant.0 (omega arith)

pub shape_of-w-then-t : goal.shape_of-w-then-t
shape_of-w-then-t c =
    let s = c in
    let S = s.args.s.now in
    let R = s.args.r.now in
    let st = start_placed (image S) (by_q (image S) (image R)) in
    let l = c.loop-k in
    turned_length S R st l.w _ l.d l.k _ _ _ c.take_side-t.ensures ∙ l.invariant.1
    ∙ start_length (image S) (by_q (image S) (image R)) s.args.w.now _
    c.start.ensures

pub returns-then-t : goal.returns-then-t
returns-then-t c =
    let s = c in
    let S = s.args.s.now in
    let R = s.args.r.now in
    let st = start_placed (image S) (by_q (image S) (image R)) in
    let l = c.loop-k in
    halted refl (walk_stop S R st l.w _ l.d l.k _ _ _ l.invariant.0 (omega arith) c.take_side-t.ensures c.if-t.true)

pub loop-k-smaller : goal.loop-k-smaller
loop-k-smaller c =
    let s = c in
    let S = s.args.s.now in
    let R = s.args.r.now in
    let st = start_placed (image S) (by_q (image S) (image R)) in
    let l = c.loop-k in
    let g = walk_turn S R st l.w _ l.d l.k _ _ _ l.invariant.0 (omega arith) c.take_side-t.ensures c.if-t.false in
    walk_less S R st l.w _ l.d l.k _ _ _ (walk_size S R st l.w l.d l.k l.invariant.0) (walk_size S R st _ _ _ g) (omega arith)
    c.take_side-t.ensures c.if-t.false

pub loop-k-preserved : goal.loop-k-preserved
loop-k-preserved c =
    let s = c in
    let S = s.args.s.now in
    let R = s.args.r.now in
    let st = start_placed (image S) (by_q (image S) (image R)) in
    let l = c.loop-k in (
      walk_turn S R st l.w _ l.d l.k _ _ _ l.invariant.0 (omega arith) c.take_side-t.ensures c.if-t.false,
      turned_length S R st
          l.w _ l.d l.k _ _ _ c.take_side-t.ensures ∙ l.invariant.1,
    )

pub shape_of-w : goal.shape_of-w
shape_of-w c =
    let s = c in
    let S = s.args.s.now in
    let R = s.args.r.now in
    let st = start_placed (image S) (by_q (image S) (image R)) in
    let l = c.loop-k in
    l.invariant.1 ∙ start_length (image S) (by_q (image S) (image R)) s.args.w.now _ c.start.ensures

pub returns : goal.returns
returns c =
    let s = c in
    let S = s.args.s.now in
    let R = s.args.r.now in
    let st = start_placed (image S) (by_q (image S) (image R)) in
    let l = c.loop-k in
    whole refl (walk_whole S R l.w l.d l.k l.invariant.0 (omega arith))
