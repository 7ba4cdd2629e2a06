use native.Mathlib.Omega.{arith}
use Prim.Native.Nat.{◌-◌, ◌≤◌}
use Rattle.congruence_tables.proofs.Column.{ColumnsTo, columns_none, puts_first, puts_second, columns_next, columns_all}
use Rattle.congruence_tables.proofs.columns.Goals as goal

pub loop-c-init : goal.loop-c-init
loop-c-init c = let s = c in (columns_none s.args.n s.args.w.now s.requires.0 s.requires.1, omega arith)

pub overflow_add-c : goal.overflow_add-c
overflow_add-c c = let i = c.loop-c.invariant in omega (arith, i.0.modulus.most, i.1)

pub common_divisor-r-requires : goal.common_divisor-r-requires
common_divisor-r-requires c = let i = c.loop-c.invariant in (i.0.modulus, omega (arith, i.0.modulus.some))

pub store_column-requires : goal.store_column-requires
store_column-requires c = let r = c.common_divisor-r in puts_first c.loop-c.invariant.0 (omega arith) r.result r.ensures

pub overflow_sub-n : goal.overflow_sub-n
overflow_sub-n c = omega (arith, c.loop-c.invariant.1)

pub overflow_sub-n-in-loop-c : goal.overflow_sub-n-in-loop-c
overflow_sub-n-in-loop-c c = omega (arith, c.common_divisor-r.ensures.low)

pub store_column-requires-in-loop-c : goal.store_column-requires-in-loop-c
store_column-requires-in-loop-c c =
    let r = c.common_divisor-r in
    let first = c.store_column in
    puts_second c.loop-c.invariant.0 (omega arith) r.result r.ensures first.ensures

pub overflow_add-c-in-loop-c : goal.overflow_add-c-in-loop-c
overflow_add-c-in-loop-c c =
    let early = c in
    let i = early.loop-c.invariant in
    omega (arith, i.0.modulus.most, i.1)

pub loop-c-smaller : goal.loop-c-smaller
loop-c-smaller c = let i = c.loop-c.invariant in omega (arith, i.0.modulus.some)

pub loop-c-preserved : goal.loop-c-preserved
loop-c-preserved c =
    let r = c.common_divisor-r in
    let i = c.loop-c.invariant in
    let first = c.store_column in
    let second = c.store_column-in-loop-c in
    (columns_next i.0 (omega arith) r.result r.ensures first.ensures second.ensures, omega (arith, i.0.modulus.some))

pub shape_of-w : goal.shape_of-w
shape_of-w c = c.loop-c.invariant.0.same

pub returns : goal.returns
returns c = columns_all c.loop-c.invariant.0 (omega arith)
