-- `arrive`: no difference is below 0 (`runs`), and from there on it is the same walk (`run_ahead`). Assumes nothing.
use native.Mathlib.Omega.{arith}
use Rattle.basics.specs.Choice.{pick}
use Rattle.matrix.specs.Words.{Q, P}
use Rattle.coset.proofs.Positions.{positions}
use Rattle.walk.specs.Inner.Way.{form_of}
use Rattle.walk_runs.proofs.Quotients.{runs}
use Rattle.walk_runs.proofs.Blocks.{run_ahead}
use Rattle.walk_runs.proofs.Tallying.{ran_low, run_low}
use Rattle.walk_runs.proofs.arrive.Goals as goal

pub overflow_add-count : goal.overflow_add-count
overflow_add-count c =
    let s = c in
    let a = s.args.way in
    omega (
      arith,
      s.requires.1.few,
      run_low s.args.inverse (form_of a) s.args.k s.requires.1.apart s.requires.2,
      ran_low s.requires.0 (pick s.args.inverse P Q) a.at s.args.k s.args.s s.requires.3,
    )

pub take-requires : goal.take-requires
take-requires c =
    let s = c in
    (runs s.args.inverse s.args.k (form_of s.args.way) s.requires.1.apart s.requires.2.leaves).takes

pub returns : goal.returns
returns c =
    let s = c in
    run_ahead (positions s.requires.0).polygon s.args.inverse s.args.k s.args.way _ s.args.s s.requires.1 s.requires.2 s.requires.3
    c.take.ensures
