use native.Mathlib.Omega.{arith}
use Rattle.figures.proofs.Scan.{walk_start, walk_fresh, walk_more, walk_end}
use Rattle.figures.proofs.mark_cycle.Goals as goal

pub loop-y-init : goal.loop-y-init
loop-y-init c = walk_start c.requires

pub push-requires : goal.push-requires
push-requires c = walk_fresh c.requires c.loop-y.invariant

pub overflow_add-y : goal.overflow_add-y
overflow_add-y c =
    let pre = c.requires in
    let loop = c.loop-y in
    let push = c.push in
    omega (arith, (walk_fresh pre loop.invariant).low, push.ensures.sparse.room)

pub offset_bounds-w-y : goal.offset_bounds-w-y
offset_bounds-w-y c =
    let pre = c.requires in
    let loop = c.loop-y in
    let push = c.push in
    omega (arith, (walk_fresh pre loop.invariant).low, push.ensures.sparse.room)

pub bounds-w-y : goal.bounds-w-y
bounds-w-y c =
    let pre = c.requires in
    let loop = c.loop-y in
    let push = c.push in
    omega (arith, (walk_fresh pre loop.invariant).low, push.ensures.sparse.room, push.ensures.sparse.long)

pub returns-then-y-x : goal.returns-then-y-x
returns-then-y-x c =
    let pre = c.requires in
    let loop = c.loop-y in
    let push = c.push in
    let wide = c.from-y in
    walk_end pre loop.invariant push.ensures wide.ensures c.if-y-x.true

pub loop-y-preserved : goal.loop-y-preserved
loop-y-preserved c =
    let pre = c.requires in
    let loop = c.loop-y in
    let push = c.push in
    let wide = c.from-y in
    walk_more pre loop.invariant push.ensures wide.ensures c.if-y-x.false
