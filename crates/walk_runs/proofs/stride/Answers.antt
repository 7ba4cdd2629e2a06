-- `stride` makes the run from the larger row, block by block. Assumes nothing.
use native.Mathlib.Omega.{arith}
use Rattle.walk.specs.Inner.Way.{form_of}
use Rattle.walk_runs.proofs.Tallying.{run_low}
use Rattle.walk_runs.proofs.stride.Goals as goal

pub step-s-requires : goal.step-s-requires
step-s-requires c =
    let s = c in
    (s.requires.0, s.requires.1.real, omega (arith, s.requires.1.few, run_low _ (form_of s.args.way) s.args.k s.requires.1.apart s.requires.2))
