-- `count_between` counts to the place, or to the end of the round and on from its beginning (`between`). Assumes nothing.
use mathlib.Core.Path.{refl}
use Prim.Native.Nat.{◌+◌}
use native.Mathlib.Omega.{arith}
use borrow.Author.Tests.{lt-ltb, le-ltb}
use Rattle.walk_runs.proofs.rounds.Arc.count_between.Goals as goal

pub returns-then-next-self : goal.returns-then-next-self
returns-then-next-self c =
    let a = c.args in
    let e = lt-ltb (a.self.at + a.j) a.self.end c.if-next-self.true in
    (rw e c.sum_from.ensures.0, omega (arith, c.sum_from.ensures.1))

pub returns : goal.returns
returns c =
    let a = c.args in
    let e = le-ltb (a.self.at + a.j) a.self.end c.if-next-self.false in
    let f = c.sum_from-first.ensures in
    let g = c.sum_from-more.ensures in
    (rw (e, f.0, g.0) refl, omega (arith, f.1, g.1))
