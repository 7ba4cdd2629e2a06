-- The pair is its eight entries in a row (`first_in_row`). Assumes nothing.
use mathlib.Core.Path.{ap, ◌∙◌}
use mathlib.Core.List.{List}
use native.Mathlib.Omega.{arith}
use lib.IntN.{ℤ}
use lib.ListN.{length}
use Rattle.basics.specs.Count.{first}
use Rattle.word.specs.Answer.{beyond}
use Rattle.word.proofs.Pair.{first_in_row}
use Rattle.word.proofs.first_large.Goals as goal

pub returns : goal.returns
returns c =
    c.first_beyond.ensures ∙ ap (λ (l : List ℤ). first (beyond 1000000 l) (length l)) c.as_flattened.ensures.value
    ∙ first_in_row c.args.a c.args.b (omega arith) (omega arith)
