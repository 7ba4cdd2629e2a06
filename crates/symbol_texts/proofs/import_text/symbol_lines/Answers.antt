-- `symbol_lines` meets its contract: three lines, one after another. Assumes nothing.
use mathlib.Core.Path.{sym, ap}
use native.Mathlib.Omega.{arith}
use Prim.Native.Nat.{◌*◌}
use lib.ListN.{length, length-drop}
use lib.Seq.{length-take-le}
use Rattle.decimal.proofs.Placing.{puts_as, puts_then}
use Rattle.symbol_texts.specs.ImportAnswer.{number_line, symbol_lines}
use Rattle.symbol_texts.proofs.ImportLines.{rest_is}
use Rattle.symbol_texts.proofs.import_text.symbol_lines.Goals as goal

pub slice_bounds-number_line-end : goal.slice_bounds-number_line-end
slice_bounds-number_line-end c =
    let s = c in
    sym (length-take-le (2 * s.args.v) s.args.table.now (omega (arith, s.requires.1)))

pub number_line-second-requires : goal.number_line-second-requires
number_line-second-requires c =
    let s = c in
    omega (
      arith,
      s.requires.0,
      s.requires.1,
      s.requires.2,
      c.count_line-first.ensures.1,
      length-take-le (2 * s.args.v)
          s.args.table.now (omega (arith, s.requires.1)),
    )

pub number_line-requires : goal.number_line-requires
number_line-requires c =
    let s = c in
    let t = s.args.table.now in
    let k = 2 * s.args.v in
    omega (
      arith,
      s.requires.0,
      s.requires.1,
      s.requires.2,
      c.count_line-first.ensures.1,
      c.number_line-second.ensures.1,
      length-take-le k t (omega (arith, s.requires.1)),
      length-drop k t,
      ap length (rest_is k t),
    )

pub returns : goal.returns
unfolding symbol_lines
returns c =
    let s = c in
    let t = s.args.table.now in
    let k = 2 * s.args.v in
    let third = puts_as (ap number_line (rest_is k t)) c.number_line.ensures.0 in
    let second = c.number_line-second.ensures in
    let first = c.count_line-first.ensures in
    puts_then (puts_then first.0 second.0 (omega arith)) third (omega arith)
