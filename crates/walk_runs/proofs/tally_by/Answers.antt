-- `tally_by`: the beginning, all runs, and the last S are the whole walk (`tallied`). Assumes nothing.
use mathlib.Core.Path.{refl, ◌∙◌}
use Rattle.walk_runs.proofs.Tallying.{tallied, kept}
use Rattle.walk_runs.proofs.tally_by.Goals as goal

pub returns : goal.returns
returns c =
    let g = c.begin-begun.ensures.0 in
    let h = c.walk_far-way.ensures in
    let e = c.finish-end.ensures in
    (tallied _ g h.0 e refl refl, kept e.onward ∙ kept g.onward, h.2)
