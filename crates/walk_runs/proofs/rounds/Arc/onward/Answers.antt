-- `onward` goes on, or round (`round_onward`). Assumes nothing.
use mathlib.Core.Path.{sym}
use Prim.Native.Nat.{◌+◌, ◌-◌}
use lib.Dec.{ltb}
use borrow.Author.Tests.{lt-ltb, le-ltb}
use Rattle.basics.proofs.Choice.{pick_true, pick_false}
use Rattle.walk_runs.proofs.rounds.Arc.onward.Goals as goal

pub returns-then-next-self : goal.returns-then-next-self
returns-then-next-self c =
    let a = c.args in
    let n = a.self.at + a.j in
    sym (pick_true (ltb n a.self.end) n (n - (a.self.end - a.self.first)) (lt-ltb n a.self.end c.if-next-self.true))

pub returns : goal.returns
returns c =
    let a = c.args in
    let n = a.self.at + a.j in
    sym (pick_false (ltb n a.self.end) n (n - (a.self.end - a.self.first)) (le-ltb n a.self.end c.if-next-self.false))
