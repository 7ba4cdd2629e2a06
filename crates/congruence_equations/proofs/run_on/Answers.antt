-- `run_on`: the steps that are left of k rounds, before the cusp's end or over it. Assumes nothing.
use Prim.Native.Nat.{◌+◌, ◌%◌}
use native.Mathlib.Nat.{mod-lt}
use native.Mathlib.Omega.{arith}
use Rattle.same_coset.proofs.Places.{width_low, place_in}
use Rattle.congruence_equations.proofs.Landing.{run_before, run_over}
use borrow.Author.Rules.{rules}
use Rattle.congruence_equations.proofs.run_on.Goals as goal

pub nonzero_rem-next : goal.nonzero_rem-next
nonzero_rem-next c =
    let s = c in
    omega (arith, c.index-d.ensures, (width_low s.requires.0 s.args.y s.requires.1).0)

pub overflow_add-next : goal.overflow_add-next
overflow_add-next c =
    let s = c in
    let d = c.index-d.result in
    let l = width_low s.requires.0 s.args.y s.requires.1 in
    omega (arith, c.index-d.ensures, l.0, l.1, mod-lt s.args.k {m = d} (omega (arith, c.index-d.ensures, l.0)), s.requires.0.room)

pub returns-then-next-end : goal.returns-then-next-end
returns-then-next-end c =
    let s = c in
    let l = rw (c.index-d.ensures, c.index-end.ensures) at c.if-next-end.true in
    rw c.index-d.ensures (run_before s.requires.0 s.args.y s.requires.1 s.args.k l)

pub overflow_sub-result : goal.overflow_sub-result
overflow_sub-result c =
    let s = c in
    let i = place_in s.requires.0 s.args.y s.requires.1 in
    omega (arith, c.index-d.ensures, c.index-end.ensures, i.wide)

pub returns : goal.returns
returns c =
    let s = c in
    let l = rw (c.index-d.ensures, c.index-end.ensures) at c.if-next-end.false in
    rw c.index-d.ensures (run_over s.requires.0 s.args.y s.requires.1 s.args.k (omega (arith, l)))
