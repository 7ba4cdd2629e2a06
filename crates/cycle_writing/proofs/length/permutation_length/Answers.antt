use mathlib.Core.Path.{sym, ap, ◌∙◌}
use lib.ListN.{length}
use native.Mathlib.Omega.{arith}
use Rattle.cycle_writing.proofs.Sizes.{empty_is, cycles_are}
use Rattle.cycle_writing.proofs.length.permutation_length.Goals as goal

pub returns-then-k-eq0 : goal.returns-then-k-eq0
returns-then-k-eq0 c = let e = c.cycles_length-k.ensures in (ap length (empty_is c.args.t.now (sym e.0 ∙ c.if-k-eq0.true)), omega arith)

pub returns-else-k-eq0 : goal.returns-else-k-eq0
returns-else-k-eq0 c =
    let e = c.cycles_length-k.ensures in
    (e.0 ∙ ap length (cycles_are c.args.t.now (λ z. c.if-k-eq0.false (e.0 ∙ z))), e.1)
