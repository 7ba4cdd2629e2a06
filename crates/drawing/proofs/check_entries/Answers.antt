-- `check_entries`: the first entry that is too large is the place of the refusal. Assumes nothing.
use mathlib.Core.Path.{sym}
use Prim.Native.Nat.{◌*◌}
use native.Mathlib.Omega.{arith}
use borrow.Author.Rules.{rules}
use Rattle.basics.proofs.Count.{clear_less}
use Rattle.call.specs.declared.refusal.Refusal.TheVariants.{TooLargeToDraw}
use Rattle.symbol.proofs.Accepted.{pass_at}
use Rattle.symbol.proofs.Order.{refuse_first}
use Rattle.drawing.specs.Answer.{too_large_at}
use Rattle.drawing.proofs.check_entries.Goals as goal

pub returns-then-too_large : goal.returns-then-too_large
returns-then-too_large c =
    sym (refuse_first (too_large_at c.args.t.now) (2 * c.args.v) c.loop-i.i TooLargeToDraw (omega arith) c.loop-i.invariant (search rules))

pub returns : goal.returns
returns c =
    let test = too_large_at c.args.t.now in
    sym (pass_at test (2 * c.args.v) TooLargeToDraw (clear_less test (2 * c.args.v) c.loop-i.i (omega arith) c.loop-i.invariant))
