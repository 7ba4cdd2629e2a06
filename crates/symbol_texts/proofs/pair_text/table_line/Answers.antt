-- `table_line` meets its contract: the first point, the others behind spaces, the line feed. Assumes nothing.
use native.Mathlib.Omega.{arith}
use Rattle.decimal.proofs.Placing.{puts_as, puts_then}
use Rattle.symbol_texts.proofs.PairLines.{rest_long, below_rest, table_line_is}
use Rattle.symbol_texts.proofs.pair_text.table_line.Goals as goal

pub put_points-second-requires : goal.put_points-second-requires
put_points-second-requires c =
    let d = c in
    let s = d in
    let xs = s.args.xs.now in
    (below_rest 3066 xs s.requires.0 s.requires.1, omega (arith, s.requires.2, d.put-first.ensures.within, rest_long xs s.requires.0))

pub returns : goal.returns
returns c =
    let e = c in
    let q = e in
    let d = q in
    let w = d in
    let s = w in
    let xs = s.args.xs.now in
    let first = d.put-first.ensures in
    let second = q.put_points-second.ensures in
    let third = e.put.ensures in (
      puts_as (table_line_is xs s.requires.0) (puts_then (puts_then first.puts second.0 (omega (arith, s.requires.2))) third (omega (arith, s.requires.2))),
      omega (arith, first.within, second.1, third.end_is, rest_long xs s.requires.0),
    )
