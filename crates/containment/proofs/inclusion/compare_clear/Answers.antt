-- `compare_clear`: clearing comes last, so zeros stay. Assumes nothing.
use borrow.Author.Rules.{rules}
use mathlib.Core.Path.{◌∙◌, ap}
use Rattle.call.specs.Space.{zeros}
use Rattle.containment.proofs.inclusion.compare_clear.Goals as goal

pub returns : goal.returns
returns c = let d = c.compare-answer.ensures in record { value = d.0; w_after = c.clear.ensures ∙ ap zeros d.1 }
