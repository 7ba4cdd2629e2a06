-- `figures::genus_of` meets its contract: each way out is an arm of the formula.
-- Assumes nothing.
use native.Mathlib.Omega.{arith}
use Rattle.figures.proofs.GenusOf.{genus_below, genus_broken, genus_whole}
use Rattle.figures.proofs.genus_of.Goals as goal

pub returns-then-plus-minus : goal.returns-then-plus-minus
returns-then-plus-minus c = genus_below c.args.index c.args.e2 c.args.e3 c.args.cusps (omega arith)

pub returns-then-d-ne0 : goal.returns-then-d-ne0
returns-then-d-ne0 c =
    let args = c.args in
    genus_broken args.index args.e2 args.e3 args.cusps (omega arith) (λ e. omega arith)

pub returns : goal.returns
returns c =
    let args = c.args in
    genus_whole args.index args.e2 args.e3 args.cusps (omega arith) (omega arith)
