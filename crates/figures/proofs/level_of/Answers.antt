use native.Mathlib.Omega.{arith}
use mathlib.Core.Path.{◌≡◌}
use Prim.Native.Nat.{◌+◌, ◌-◌}
use borrow.Author.Rules.{rules}
use Rattle.numbering.proofs.Space.{entries_length}
use Rattle.figures.proofs.Scan.{part_entry, level_over, level_more, level_end}
use Rattle.figures.proofs.level_of.Goals as goal

pub returns-in_err-m : goal.returns-in_err-m
returns-in_err-m c =
    let x = part_entry c.requires.fits c.loop-x-test.true c.from.ensures in
    let over = level_over c.requires c.loop-x.invariant x.low x.is c.in_err-m.field-0.0 c.in_err-m.was c.lcm_of.ensures in
    search (rules, over)

pub loop-x-preserved : goal.loop-x-preserved
loop-x-preserved c =
    let x = part_entry c.requires.fits c.loop-x-test.true c.from.ensures in
    level_more c.requires c.loop-x.invariant x.low x.is c.in_ok-m.m (rw c.in_ok-m.was at c.lcm_of.ensures)

pub returns : goal.returns
returns c =
    let k : c.args.off + c.args.n - c.args.off ≡ c.args.n = omega arith in
    let past = rw k at c.loop-x-test.false in
    let end = rw k at c.loop-x.auto.x-index-end in
    level_end c.requires c.loop-x.invariant
    (omega (arith, past, end, entries_length c.args.off c.args.n c.args.w.now c.requires.fits))
