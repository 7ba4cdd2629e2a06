-- `backward` goes back, or round (`backward`). Assumes nothing.
use mathlib.Core.Path.{sym}
use Prim.Native.Nat.{◌+◌, ◌-◌}
use lib.Dec.{leb}
use borrow.Author.Tests.{le-leb, lt-leb}
use Rattle.basics.proofs.Choice.{pick_true, pick_false}
use Rattle.walk_runs.proofs.rounds.Arc.backward.Goals as goal

pub returns-then-self-j : goal.returns-then-self-j
returns-then-self-j c =
    let a = c.args in
    sym (pick_true (leb (a.self.first + a.j) a.self.at) (a.self.at - a.j) (a.self.at + (a.self.end - a.self.first) - a.j)
    (le-leb (a.self.first + a.j) a.self.at c.if-self-j.true))

pub returns : goal.returns
returns c =
    let a = c.args in
    sym (pick_false (leb (a.self.first + a.j) a.self.at) (a.self.at - a.j) (a.self.at + (a.self.end - a.self.first) - a.j)
    (lt-leb (a.self.first + a.j) a.self.at c.if-self-j.false))
