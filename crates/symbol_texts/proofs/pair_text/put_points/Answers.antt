use mathlib.Core.List.{map}
use native.Mathlib.Omega.{arith}
use lib.ListN.{get_or, length-map}
use Rattle.text.specs.Line.{natural}
use Rattle.text.proofs.Spacing.{spaced_none, spaced_more, spaced_all, natural_at}
use Rattle.symbol_texts.proofs.PairLines.{point_most}
use Rattle.symbol_texts.proofs.pair_text.put_points.Goals as goal

pub loop-x-init : goal.loop-x-init
loop-x-init c = spaced_none 5 (map natural c.args.xs.now) c.args.at c.args.out.now

pub put_spaced-end-requires : goal.put_spaced-end-requires
put_spaced-end-requires c = let q = c.loop-x in omega (arith, q.invariant.most, q.invariant.same)

pub loop-x-preserved : goal.loop-x-preserved
loop-x-preserved c =
    let q = c.loop-x in
    let xs = c.args.xs.now in
    let e = c.put_spaced-end.ensures in
    let few = point_most (get_or xs q.x-index 0) (c.requires.0 q.x-index c.loop-x-test.true) in
    spaced_more q.invariant (omega (arith, length-map xs natural)) (natural_at xs q.x-index) e.0
    (omega (arith, e.1, q.invariant.most, q.invariant.same, c.requires.1)) (omega (arith, e.0.end_is, few))

pub returns : goal.returns
returns c =
    let xs = c.args.xs.now in
    rw (length-map xs natural) at (spaced_all c.loop-x.invariant (omega (arith, length-map xs natural, c.loop-x-test.false)))
