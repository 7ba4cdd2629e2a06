-- `enter` puts x at the end of the queue and marks it, unless its mark says that it is there (`enter_old`, `enter_new`). Assumes nothing.
use native.Mathlib.Numerals.{add-one}
use Rattle.permutations.proofs.Queue.{enter_old, enter_new}
use Rattle.permutations.proofs.reach.Reached.enter.Goals as goal

pub returns-then-self-x : goal.returns-then-self-x
returns-then-self-x c =
    let z = c.args in
    enter_old z.n z.size z.x z.self.now.marks z.self.now.queue c.requires.0 c.requires.1 c.if-self-x.true

pub returns : goal.returns
returns c =
    let z = c.args in
    rw add-one (enter_new z.n z.size z.x z.self.now.marks z.self.now.queue c.requires.0 c.requires.1 c.if-self-x.false)
