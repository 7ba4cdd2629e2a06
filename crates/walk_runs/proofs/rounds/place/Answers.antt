-- `place` enters the round of a position that has no place. Assumes nothing.
use native.Mathlib.Omega.{arith}
use Rattle.walk_runs.specs.Inner.Rounds.{round_place}
use Rattle.walk_runs.proofs.Entering.{above, few_places, real_low}
use Rattle.walk_runs.proofs.rounds.place.Goals as goal

pub offset_bounds-r-p : goal.offset_bounds-r-p
offset_bounds-r-p c =
    let s = c in
    let ok = s.requires.0.tables.symbol in
    omega (arith, real_low ok s.args.p s.requires.2, few_places ok)

pub bounds-r-p : goal.bounds-r-p
bounds-r-p c =
    let s = c in
    let ok = s.requires.0.tables.symbol in
    omega (arith, s.requires.1.listed.long, real_low ok s.args.p s.requires.2, few_places ok)

pub returns-else-r-p-eq0 : goal.returns-else-r-p-eq0
returns-else-r-p-eq0 c =
    let s = c in
    record { rounds = s.requires.1; entered = above (round_place s.args.r.now s.args.p) c.if-r-p-eq0.false }
