-- `text::survey_of` meets its contract: `count` pieces lie before `from`, each a number. Assumes nothing.
use Prim.Native.Nat.{◌≤◌, ◌-◌}
use lib.ListN.{length}
use Rattle.text.proofs.Walks.{Walked}
use Rattle.text.proofs.survey_of.Given as goal

abbrev pub invariant-loop-number : goal.invariant-loop-number
invariant-loop-number l = record { walked : Walked l.text l.count l.from; few : l.count ≤ l.from }

abbrev pub decreases-loop-number : goal.decreases-loop-number
decreases-loop-number l = length l.text - l.from
