-- `text::negative` meets its contract: -1 - (m - 1) is -m, and no step leaves 64 bits. Assumes nothing.
use mathlib.Core.Path.{ap, sym}
use Prim.Native.Nat.{ℕ}
use lib.IntN.{pos, neg_ℤ}
use Rattle.text.proofs.Signs.{less_fits, less_stored}
use Rattle.text.proofs.numeral.negative.Goals as goal

pub returns-then-m-eq0 : goal.returns-then-m-eq0
returns-then-m-eq0 c = ap (λ (n : ℕ). neg_ℤ (pos n)) (sym c.if-m-eq0.true)

pub overflow_sub-result : goal.overflow_sub-result
overflow_sub-result c = less_fits c.args.m c.if-m-eq0.false c.requires

pub returns : goal.returns
returns c = less_stored c.args.m c.if-m-eq0.false c.requires
