-- `check_zero` is check 5, which is the other way about: finding 0/1 is passing it. Assumes nothing.
use mathlib.Core.Path.{sym, ap}
use mathlib.Core.Bool.{not}
use lib.Dec.{ltb}
use native.Mathlib.Omega.{arith}
use borrow.Author.Tests.{lt-ltb, le-ltb}
use Rattle.basics.specs.Count.{first}
use Rattle.basics.proofs.Count.{clear_less, first_clear, first_hit}
use Rattle.symbol.specs.Check.{is_zero}
use Rattle.call.specs.declared.refusal.Refusal.TheVariants.{NoZero}
use Rattle.symbol.proofs.Order.{refuse_yes, refuse_no}
use Rattle.symbol.proofs.check_zero.Goals as goal

pub returns-then-is_zero : goal.returns-then-is_zero
returns-then-is_zero c =
    let v = c.args.v in
    let test = is_zero c.args.t.now in
    let i = first_hit test c.loop-i.i v (omega arith) c.loop-i.invariant (sym c.if-is_zero.ensures) in
    sym (refuse_no (not (ltb (first test v) v)) NoZero (ap not (lt-ltb (first test v) v (omega arith))))

pub returns : goal.returns
returns c =
    let v = c.args.v in
    let test = is_zero c.args.t.now in
    let i = first_clear test v (clear_less test v c.loop-i.i (omega arith) c.loop-i.invariant) in
    sym (refuse_yes (not (ltb (first test v) v)) NoZero (ap not (le-ltb (first test v) v (omega arith))))
