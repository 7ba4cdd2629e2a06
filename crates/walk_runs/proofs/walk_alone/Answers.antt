-- `walk_alone` starts with no round (`fresh_rounds`). Assumes nothing.
use mathlib.Core.Path.{refl}
use Rattle.walk_runs.proofs.Tallying.{fresh_rounds}
use Rattle.walk_runs.proofs.walk_alone.Goals as goal

pub walk_far-requires : goal.walk_far-requires
walk_far-requires c =
    let s = c in
    (s.requires.0, fresh_rounds s.args.v s.args.t.now 20481 refl, s.requires.1)
