-- `last_run` meets its contract: back over the digits, what is left ends in the same run, until its last byte is no
-- digit. Assumes nothing.
use mathlib.Core.Path.{◌≡◌}
use lib.ListN.{take}
use Rattle.cycle_texts.specs.Cut.{without_run}
use Rattle.cycle_texts.proofs.cycles_text.last_run.Given as goal

abbrev pub invariant-loop-at : goal.invariant-loop-at
invariant-loop-at l = without_run l.text ≡ without_run (take l.at l.text)
