-- `coset::make_figures` meets its contract: the figures of `survey`, and then the work space is cleared. Assumes nothing.
use Rattle.std.specs.Prelude.{Ok}
use mathlib.Core.Path.{◌∙◌, ap}
use Rattle.call.specs.Space.{zeros}
use borrow.Author.Rules.{rules}
use Rattle.coset.proofs.make_figures.Goals as goal

pub returns : goal.returns
returns c =
    let k = c in
    let s = k.survey-f.ensures in
    record { value = ap Ok s.figures; w_after = k.clear.ensures ∙ ap zeros s.same }
