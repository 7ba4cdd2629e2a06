-- `check_entries` is check 3: the first entry out of range is the place of its refusal. Assumes nothing.
use mathlib.Core.Path.{sym}
use Prim.Native.Nat.{◌*◌}
use native.Mathlib.Omega.{arith}
use Rattle.basics.proofs.Count.{clear_less}
use Rattle.symbol.specs.Check.{out_of_range}
use Rattle.call.specs.declared.refusal.Refusal.TheVariants.{VertexEntry}
use Rattle.symbol.proofs.Accepted.{pass_at}
use Rattle.symbol.proofs.Order.{refuse_first}
use Rattle.symbol.proofs.check_entries.Goals as goal

pub returns-then-out_of_range : goal.returns-then-out_of_range
returns-then-out_of_range c =
    sym (refuse_first (out_of_range c.args.t.now) (2 * c.args.v) c.loop-i.i VertexEntry (omega arith) c.loop-i.invariant (sym c.if-out_of_range.ensures))

pub returns : goal.returns
returns c =
    let test = out_of_range c.args.t.now in
    sym (pass_at test (2 * c.args.v) VertexEntry (clear_less test (2 * c.args.v) c.loop-i.i (omega arith) c.loop-i.invariant))
