-- `next_run` divides what is left of the larger row but one by the smaller row (`next_is`). Assumes nothing.
use native.Mathlib.Omega.{arith}
use mathlib.Core.Bool.{true, false}
use Prim.Native.Nat.{◌+◌}
use borrow.Author.Tests.{lt-ltb, le-ltb}
use Rattle.walk.specs.Inner.Way.{form_of}
use Rattle.walk_runs.proofs.Quotients.{some_row}
use Rattle.walk_runs.proofs.Tallying.{next_is}
use Rattle.walk_runs.proofs.next_run.Goals as goal

pub overflow_sub-result : goal.overflow_sub-result
overflow_sub-result c = let s = c in omega (arith, some_row true (form_of s.args.way) s.requires.apart)

pub nonzero_div-result : goal.nonzero_div-result
nonzero_div-result c = let s = c in omega (arith, some_row false (form_of s.args.way) s.requires.apart)

pub returns-then-upper-lower : goal.returns-then-upper-lower
returns-then-upper-lower c =
    let s = c in
    let f = form_of s.args.way in
    next_is true f s.requires (lt-ltb (f.p + f.q) (f.r + f.t) c.if-upper-lower.true)

pub overflow_sub-result-2 : goal.overflow_sub-result-2
overflow_sub-result-2 c = let s = c in omega (arith, some_row false (form_of s.args.way) s.requires.apart)

pub nonzero_div-result-2 : goal.nonzero_div-result-2
nonzero_div-result-2 c = let s = c in omega (arith, some_row true (form_of s.args.way) s.requires.apart)

pub returns : goal.returns
returns c =
    let s = c in
    let f = form_of s.args.way in
    next_is false f s.requires (le-ltb (f.p + f.q) (f.r + f.t) c.if-upper-lower.false)
