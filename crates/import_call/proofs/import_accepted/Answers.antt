-- `import_accepted` answers as `grow_within` does; the space is cleared after, so zeros stay on each way out. Assumes nothing.
use mathlib.Core.Path.{◌∙◌, ap}
use Rattle.call.specs.Space.{zeros}
use borrow.Author.Rules.{rules}
use Rattle.import_call.proofs.import_accepted.Goals as goal

pub returns : goal.returns
returns c =
    let k = c in
    let b = k in
    let g = b.grow_within-grown in
    record { fills = g.ensures; w_after = k.clear.ensures ∙ ap zeros g.auto.w }
