-- `enter_round`: with its ends entered, the round that was opened is one round more (`rounds_more`). Assumes nothing.
use mathlib.Core.Path.{sym, ◌∙◌}
use native.Mathlib.Omega.{arith}
use lib.ListN.{length-set}
use Rattle.walk_runs.proofs.Entering.{few_places, places_low, rounds_more}
use Rattle.walk_runs.proofs.rounds.enter_round.Goals as goal

pub open_round-n-requires : goal.open_round-n-requires
open_round-n-requires c =
    let q = c.requires in
    let e = c.index-a.ensures in
    (q.0, rw e q.1.listed, rw e q.1.closed, q.2, q.3)

pub fill_ends-requires : goal.fill_ends-requires
fill_ends-requires c =
    let o = c.open_round-n.ensures in
    let ok = c.requires.0.tables.symbol in
    (o.listed.long, omega (arith, o.some), omega (arith, places_low ok o.listed, few_places ok))

pub shape_of-r : goal.shape_of-r
shape_of-r c =
    simp length-set (c.fill_ends.ensures.long ∙ c.open_round-n.ensures.listed.long ∙
    sym c.requires.1.listed.long)

pub returns : goal.returns
returns c =
    rounds_more c.requires.0.tables.symbol
    c.open_round-n.ensures c.fill_ends.ensures
