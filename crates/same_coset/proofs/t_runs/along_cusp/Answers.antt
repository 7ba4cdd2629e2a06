-- `along_cusp` is `along_cusp`, whose test is the code's. Assumes nothing.
use mathlib.Core.Path.{sym}
use Prim.Native.Nat.{◌+◌, ◌-◌}
use native.Mathlib.Omega.{arith}
use lib.Dec.{ltb}
use borrow.Author.Tests.{lt-ltb, le-ltb}
use Rattle.basics.proofs.Choice.{pick_true, pick_false}
use Rattle.same_coset.proofs.t_runs.along_cusp.Goals as goal

pub overflow_add-next : goal.overflow_add-next
overflow_add-next c = let h = c.requires in omega (arith, h.0.before, h.0.room, h.1, h.2)

pub returns-then-next-end : goal.returns-then-next-end
returns-then-next-end c =
    let a = c.args in
    let j = a.y + a.j in
    sym (pick_true (ltb j a.end) j (j - a.d) (lt-ltb j a.end c.if-next-end.true))

pub overflow_sub-result : goal.overflow_sub-result
overflow_sub-result c = let h = c.requires in omega (arith, h.0.wide, c.if-next-end.false)

pub returns : goal.returns
returns c =
    let a = c.args in
    let j = a.y + a.j in
    sym (pick_false (ltb j a.end) j (j - a.d) (le-ltb j a.end c.if-next-end.false))
