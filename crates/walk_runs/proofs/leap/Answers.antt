-- `leap` makes the run from the larger row, by the tables where it is long. Assumes nothing.
use native.Mathlib.Omega.{arith}
use Rattle.walk.specs.Inner.Way.{form_of}
use Rattle.walk_runs.proofs.Tallying.{run_low}
use Rattle.walk_runs.proofs.leap.Goals as goal

pub run-s-requires : goal.run-s-requires
run-s-requires c =
    let s = c in
    (s.requires.0, s.requires.1, s.requires.2.real, omega (arith, s.requires.2.few, run_low _ (form_of s.args.way) s.args.k s.requires.2.apart s.requires.3))
