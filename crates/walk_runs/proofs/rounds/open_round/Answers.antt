use native.Mathlib.Omega.{arith}
use mathlib.Core.Bool.{false}
use Rattle.matrix.specs.Words.{Q}
use Rattle.coset.proofs.Positions.{positions}
use Rattle.walk_runs.proofs.Blocks.{block_low}
use Rattle.walk_runs.proofs.Counts.{block_is, block_count_lem}
use Rattle.walk_runs.proofs.Entering.{few_places, real_low, room, places_low, opening_none, position_more, opened}
use Rattle.walk_runs.proofs.rounds.open_round.Goals as goal

pub loop-r-init : goal.loop-r-init
loop-r-init c = let s = c in (s.requires.1, s.requires.2, opening_none s.requires.0.tables.symbol s.args.a s.requires.3 s.requires.4)

pub offset_bounds-r-x : goal.offset_bounds-r-x
offset_bounds-r-x c =
    let ok = c.requires.0.tables.symbol in
    omega (arith, real_low ok c.loop-r.x c.loop-r.invariant.2.real, few_places ok)

pub bounds-r-x : goal.bounds-r-x
bounds-r-x c =
    let l = c.loop-r in
    let ok = c.requires.0.tables.symbol in
    omega (arith, l.invariant.0.long, real_low ok l.x l.invariant.2.real, few_places ok)

pub block_end-to-requires : goal.block_end-to-requires
block_end-to-requires c = (c.requires.0, c.loop-r.invariant.2.real)

pub letters-more-requires : goal.letters-more-requires
letters-more-requires c = (c.requires.0, c.loop-r.invariant.2.real)

pub overflow_add-n : goal.overflow_add-n
overflow_add-n c =
    let i = c.loop-r.invariant in
    let ok = c.requires.0.tables.symbol in
    omega (arith, places_low ok i.0, few_places ok)

pub bounds-r-n : goal.bounds-r-n
bounds-r-n c =
    let l = c.loop-r in
    let ok = c.requires.0.tables.symbol in
    omega (arith, l.invariant.0.long, room ok l.x l.invariant.0 l.invariant.2.real c.loop-r-test.true, few_places ok)

pub overflow_add-s : goal.overflow_add-s
overflow_add-s c =
    let at-loop = c in
    let l = at-loop.loop-r in
    let ok = at-loop.requires.0.tables.symbol in
    let b = c.block_end-to in
    let m = c.letters-more in
    let more = block_count_lem ok false l.x b.result m.result b.ensures m.ensures in
    let n = room ok l.x l.invariant.0 l.invariant.2.real c.loop-r-test.true in
    let sum = l.invariant.0.low l.n (omega arith) in
    omega (arith, sum, n, few_places ok, c.index.ensures, more, block_low (positions ok).polygon Q l.x)

pub enter-requires : goal.enter-requires
enter-requires c =
    let at-loop = c in
    let l = at-loop.loop-r in
    let ok = at-loop.requires.0.tables.symbol in
    let b = c.block_end-to in
    let m = c.letters-more in
    let more = block_count_lem ok false l.x b.result m.result b.ensures m.ensures in
    let n = room ok l.x l.invariant.0 l.invariant.2.real c.loop-r-test.true in
    let sum = l.invariant.0.low l.n (omega arith) in (
      l.invariant.0.long,
      omega (arith, real_low ok l.x l.invariant.2.real, few_places ok),
      omega (arith, n, few_places ok),
      l.invariant.2.from,
      omega (arith, sum, n, few_places ok, c.index.ensures, more, block_low (positions ok).polygon Q l.x),
    )

pub loop-r-smaller : goal.loop-r-smaller
loop-r-smaller c =
    let at_test = c in
    let l = at_test.loop-r in
    let ok = at_test.requires.0.tables.symbol in
    omega (arith, room ok l.x l.invariant.0 l.invariant.2.real at_test.loop-r-test.true)

pub loop-r-preserved : goal.loop-r-preserved
loop-r-preserved c =
    let entered = c in
    let led = entered in
    let at_test = led in
    let s = at_test in
    let l = at_test.loop-r in
    let ok = s.requires.0.tables.symbol in
    let b = led.block_end-to in
    let m = entered.letters-more in
    let more = block_count_lem ok false l.x b.result m.result b.ensures m.ensures in
    position_more ok b.result l.invariant.0 l.invariant.1 l.invariant.2 at_test.loop-r-test.true entered.enter.ensures
    (omega (arith, entered.index.ensures, more))
    (block_is s.args.v s.args.t.now Q l.x b.result b.ensures)

pub returns : goal.returns
returns c =
    let l = c.loop-r in
    opened c.requires.0.tables.symbol l.invariant.0 l.invariant.1 l.invariant.2 c.loop-r-test.false
