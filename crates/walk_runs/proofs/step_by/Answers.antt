use mathlib.Core.Path.{refl}
use native.Mathlib.Omega.{arith}
use Rattle.basics.specs.Choice.{pick}
use Rattle.matrix.specs.Words.{P, Q}
use Rattle.coset.proofs.Positions.{positions}
use Rattle.walk_runs.proofs.Blocks.{block_low}
use Rattle.walk_runs.proofs.Counts.{block_is, block_count_lem}
use Rattle.walk_runs.proofs.Tallying.{stepping_none, stepping_more, stepping_low, stepping_end}
use Rattle.walk_runs.proofs.step_by.Goals as goal

pub loop-block-init : goal.loop-block-init
loop-block-init c = let s = c in stepping_none s.requires.0.tables.symbol (pick s.args.inverse P Q) s.args.p s.args.k s.requires.1

pub block_end-to-requires : goal.block_end-to-requires
block_end-to-requires c = (c.requires.0, c.loop-block.invariant.real)

pub letters-count-requires : goal.letters-count-requires
letters-count-requires c = (c.requires.0, c.loop-block.invariant.real)

pub overflow_add-count : goal.overflow_add-count
overflow_add-count c =
    let s = c in
    let l = c.loop-block in
    let ok = s.requires.0.tables.symbol in
    let to = c.block_end-to in
    let n = block_count_lem ok s.args.inverse l.at to.result c.letters-count.result to.ensures c.letters-count.ensures in
    omega (arith, stepping_low ok l.invariant, l.invariant.so_far, s.requires.2, n, block_low (positions ok).polygon (pick s.args.inverse P Q) l.at)

pub loop-block-preserved : goal.loop-block-preserved
loop-block-preserved c =
    let s = c in
    let l = c.loop-block in
    let ok = s.requires.0.tables.symbol in
    let b = c.block_end-to in
    let n = block_count_lem ok s.args.inverse l.at b.result c.letters-count.result b.ensures c.letters-count.ensures in
    stepping_more ok b.result c.letters-count.result c.loop-block-test.true
    (block_is s.args.v s.args.t.now (pick s.args.inverse P Q) l.at b.result b.ensures) n l.invariant

pub returns : goal.returns
returns c = let s = c in stepping_end s.requires.0.tables.symbol _ c.loop-block-test.false refl refl c.loop-block.invariant
