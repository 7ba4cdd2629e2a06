-- `group_numbers` meets its contract: one number alone names no group; two are the family's number and N. Assumes nothing.
use mathlib.Core.Path.{ap}
use mir.Syntax.{w64}
use mir.Facts.{to_z-of_z}
use Rattle.matrix.specs.Matrix.{nth}
use Rattle.decimal.proofs.Placing.{puts_as}
use Rattle.symbol_texts.specs.NamedAnswer.{request_lines}
use Rattle.symbol_texts.proofs.NamedAsked.{few_numbers, enough_numbers}
use Rattle.symbol_texts.proofs.named_text.group_numbers.Goals as goal

pub returns-then-numbers-lt2 : goal.returns-then-numbers-lt2
returns-then-numbers-lt2 c =
    let i = c in
    let s = i in
    puts_as (ap request_lines (few_numbers s.args.numbers.now i.if-numbers-lt2.true)) c.refusal_line.ensures

pub returns : goal.returns
returns c =
    let l = c.group_lines in
    let n = c in
    let k = n in
    let s = k in
    let ns = s.args.numbers.now in
    let first = rw (to_z-of_z {w = w64} {z = nth ns 0} (record { sfits = k.vertex_count-arg-1.given })) at k.vertex_count-k.ensures in
    let second = rw (to_z-of_z {w = w64} {z = nth ns 1} (record { sfits = n.vertex_count-arg-2-1.given })) at n.vertex_count-n.ensures in
    puts_as (ap request_lines (enough_numbers ns k.if-numbers-lt2.false first second)) l.ensures
