-- `text::place` meets its contract: as many pieces lie before `from` as turns were made, so that what `next` finds
-- after `k` of them is piece k. Assumes nothing.
use Rattle.text.proofs.Walks.{Walked}
use Rattle.text.proofs.place.Given as goal

abbrev pub invariant-loop-i : goal.invariant-loop-i
invariant-loop-i l = Walked l.text l._i l.from
