-- `run` steps, or follows the round that the run is on, backward for blocks of S Q⁻¹. Assumes nothing.
use mathlib.Core.Path.{sym, subst}
use mathlib.Core.Bool.{Bool}
use native.Mathlib.Omega.{arith}
use Rattle.basics.specs.Choice.{pick}
use Rattle.matrix.specs.Words.{Q, P}
use Rattle.walk_runs.specs.Inner.Rounds.{HasPlace}
use Rattle.walk_runs.specs.Inner.Tally.{Ran, Entrance}
use Rattle.walk_runs.proofs.Entering.{few_places, real_low}
use Rattle.walk_runs.proofs.Tallying.{entered_here}
use Rattle.walk_runs.proofs.run.Goals as goal

pub is_short-requires : goal.is_short-requires
is_short-requires c =
    let s = c in
    let ok = s.requires.0.tables.symbol in
    let low = real_low ok c.entrance-u.result c.entrance-u.ensures.real in
    (omega (arith, s.requires.1.listed.long, low, few_places ok), ok.most, omega (arith, low, few_places ok))

pub run_back-requires : goal.run_back-requires
run_back-requires c =
    let placed = c in
    let from = placed in
    let s = from in
    let u = from.entrance-u in (
      s.requires.0,
      placed.place.ensures,
      s.requires.2,
      subst (λ (b : Bool). Entrance s.args.v s.args.t.now s.args.p b u.result) c.if-inverse.true u.ensures,
      s.requires.3,
    )

pub returns-then-inverse : goal.returns-then-inverse
returns-then-inverse c =
    let placed = c in
    let s = placed in (
      subst (λ (b : Bool). Ran s.args.v s.args.t.now (pick b P Q) s.args.p s.args.k c.run_back.result)
          (sym c.if-inverse.true) c.run_back.ensures,
      placed.place.ensures.rounds,
    )

pub follow-requires : goal.follow-requires
follow-requires c =
    let placed = c in
    let from = placed in
    let s = from in
    let ok = s.requires.0.tables.symbol in
    let e = entered_here ok c.if-inverse.false from.entrance-u.ensures in
    (ok, subst (HasPlace s.args.v s.args.t.now _) e placed.place.ensures, s.requires.2, s.requires.3)

pub returns : goal.returns
returns c =
    let placed = c in
    let s = placed in (
      subst (λ (b : Bool). Ran s.args.v s.args.t.now (pick b P Q) s.args.p s.args.k c.follow.result) (sym c.if-inverse.false)
          c.follow.ensures,
      placed.place.ensures.rounds,
    )
