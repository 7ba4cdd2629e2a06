-- `check_paired` is check 6: with all labels counted, the first side that isn't paired is the place of its refusal. Assumes nothing.
use mathlib.Core.Path.{sym}
use Prim.Native.Nat.{◌+◌}
use native.Mathlib.Omega.{arith}
use Rattle.basics.proofs.Count.{clear_less}
use Rattle.symbol.specs.Check.{unpaired_in}
use Rattle.call.specs.declared.refusal.Refusal.TheVariants.{BadPairing}
use Rattle.symbol.proofs.Accepted.{pass_at}
use Rattle.symbol.proofs.Order.{refuse_first, tallied_none}
use Rattle.symbol.proofs.check_paired.Goals as goal

pub tally-requires : goal.tally-requires
tally-requires c = (c.requires.0, c.requires.1, tallied_none c.args.v c.args.p.now)

pub returns-then-is_unpaired : goal.returns-then-is_unpaired
returns-then-is_unpaired c =
    sym (refuse_first (unpaired_in c.args.v c.args.p.now) (c.args.v + 1) c.loop-i.i BadPairing (omega arith) c.loop-i.invariant
    (sym c.if-is_unpaired.ensures))

pub returns : goal.returns
returns c =
    let test = unpaired_in c.args.v c.args.p.now in
    sym (pass_at test (c.args.v + 1) BadPairing (clear_less test (c.args.v + 1) c.loop-i.i (omega arith) c.loop-i.invariant))
