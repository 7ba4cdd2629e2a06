-- `count_line` meets its contract: the digits and a line feed are a line of one number. Assumes nothing.
use native.Mathlib.Omega.{arith}
use Rattle.decimal.proofs.Placing.{puts_as, puts_then}
use Rattle.symbol_texts.proofs.PairLines.{one_line_is}
use Rattle.symbol_texts.proofs.pair_text.count_line.Goals as goal

pub returns : goal.returns
returns c =
    let p = c in
    let d = p in
    let s = d in
    let e = d.put-first.ensures in
    (puts_as (one_line_is s.args.n) (puts_then e.puts p.put.ensures (omega arith)), omega (arith, p.put.ensures.end_is, e.within))
